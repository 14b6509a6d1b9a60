-- Lemmas. Reading a file from its front, a record a turn: what is left from here gives the whole
-- file. Assumes nothing.
use Rattle.std.specs.Prelude.{ℕ, zero, suc, ◌+◌, ◌-◌, ◌≤◌, ◌<◌, ◌≡◌, refl, true, false, List, [], ◌∷◌, ◌++◌, length, drop, eqb}
use Rattle.std.proofs.Common.{sym, ap, ◌∙◌, append_assoc, append-nil, arith, length-drop, drop-drop}
use Rattle.theory_basics.specs.Refusals.{unless, ◌or_else◌}
use Rattle.theory_basics.specs.lemmas.Refusals.{or_else_some}
use Rattle.records.specs.File.{Front, got, none, Format, ended, Split, split_by, split_up_to, split, first_fault, stop_refusal, records_refusal}

module _ {R : Type 0} (F : Format R) where
  -- The refusal from here on, after the records before.
  abbrev pub refusal_from : List R → Split R → ℕ
  refusal_from before f = first_fault F before f.records or_else stop_refusal F (before ++ f.records) f.stop

  -- The file s is read up to at, the records before taken without a fault.
  pub record Reads (s : List ℕ) (at : ℕ) (before : List R) : Type 0 where
    pub fuel : ℕ
    pub enough : length s < at + fuel
    pub inside : at ≤ length s
    pub records_are : (split F s).records ≡ before ++ (split_up_to F fuel (drop at s)).records
    pub stop_is : (split F s).stop ≡ (split_up_to F fuel (drop at s)).stop
    pub refusal_is : records_refusal F s ≡ refusal_from before (split_up_to F fuel (drop at s))

  pub reads_start : (s : List ℕ) → Reads s 0 []
  reads_start s =
      record { fuel = length s + 1; enough = omega arith; inside = omega arith; records_are = refl; stop_is = refl; refusal_is = refl }

  -- With fuel for one record more, what stands in front is read.
  split_front : (k : ℕ) (s : List ℕ) (x : Front R) → F.front s ≡ x → split_up_to F (suc k) s ≡ split_by F (split_up_to F k) s x
  unfolding split_up_to
  split_front k s x e = rw e

  record Pred (n : ℕ) : Type 0 where
    pred : ℕ
    is : n ≡ suc pred

  has_pred : (n : ℕ) → 0 < n → Pred n
  has_pred zero h = absurd (omega arith)
  has_pred (suc n) h = record { pred = n; is = refl }

  -- The file s ends at EN after the records before it, with k bytes behind EN.
  pub record Ends (s : List ℕ) (before : List R) (k : ℕ) : Type 0 where
    pub refusal_is : records_refusal F s ≡ unless 3 (eqb k 0) or_else F.lacking before
    pub records_are : (split F s).records ≡ before
    pub stop_is : (split F s).stop ≡ ended k

  append_one : (xs : List R) (x : R) (ys : List R) → xs ++ x ∷ ys ≡ (xs ++ (x ∷ [])) ++ ys
  append_one xs x ys = sym (append_assoc xs (x ∷ []) ys)

  module _ (s : List ℕ) (at : ℕ) (before : List R) (i : Reads s at before) where
    less : Pred i.fuel
    less = has_pred i.fuel (omega (arith, i.enough, i.inside))

    split_here : (x : Front R) → F.front (drop at s) ≡ x → split_up_to F i.fuel (drop at s) ≡ split_by F (split_up_to F less.pred) (drop at s) x
    split_here x e = ap (λ (n : ℕ). split_up_to F n (drop at s)) less.is ∙ split_front less.pred (drop at s) x e

    -- No record stands here: that is the file's refusal.
    pub reads_none : (n : ℕ) → F.front (drop at s) ≡ none n → records_refusal F s ≡ n
    reads_none n e = i.refusal_is ∙ ap (refusal_from before) (split_here (none n) e) ∙ refl

    module _ (r : R) (n : ℕ) (e : F.front (drop at s) ≡ got r n) where
      -- EN: every record has been taken.
      pub reads_end : F.is_end r ≡ true → Ends s before (length (drop at s) - n)
      reads_end b =
          let h : split_up_to F i.fuel (drop at s) ≡ record { records = []; stop = ended (length (drop at s) - n) } = split_here (got r n) e ∙ rw b in
          record {
            refusal_is = i.refusal_is ∙ rw (h, append-nil before);
            records_are = i.records_are ∙ rw h (append-nil before);
            stop_is = i.stop_is ∙ rw h;
          }

      further : F.is_end r ≡ false → split_up_to F i.fuel (drop at s) ≡ record { records = r ∷ (split_up_to F less.pred (drop n (drop at s))).records; stop = (split_up_to F less.pred (drop n (drop at s))).stop }
      further b = split_here (got r n) e ∙ rw b

      -- A record with a fault: that is the file's refusal.
      pub reads_fault : F.is_end r ≡ false → (F.fault before r ≡ 0 → ⊥) → records_refusal F s ≡ F.fault before r
      reads_fault b f =
          let rest = split_up_to F less.pred (drop n (drop at s)) in
          let some = or_else_some (F.fault before r) (first_fault F (before ++ (r ∷ [])) rest.records) f in
          i.refusal_is ∙ rw (further b, some) (or_else_some (F.fault before r) (stop_refusal F (before ++ r ∷ rest.records) rest.stop) f)

      -- A record without one: it is taken.
      pub reads_more : F.is_end r ≡ false → 0 < n → n ≤ length (drop at s) → F.fault before r ≡ 0 → Reads s (at + n) (before ++ (r ∷ []))
      reads_more b p long z =
          let rest = split_up_to F less.pred (drop n (drop at s)) in
          let at_rest : drop n (drop at s) ≡ drop (at + n) s = drop-drop n at s in
          record {
            fuel = less.pred;
            enough = omega (arith, i.enough, less.is);
            inside = omega (arith, i.inside, length-drop at s);
            records_are = i.records_are ∙ rw (further b, ← at_rest) (append_one before r rest.records);
            stop_is = i.stop_is ∙ rw (further b, ← at_rest);
            refusal_is = i.refusal_is ∙ rw (further b, ← at_rest, z) (ap (λ (l : List R). first_fault F (before ++ (r ∷ [])) rest.records or_else stop_refusal F l rest.stop) (append_one before r rest.records));
          }
