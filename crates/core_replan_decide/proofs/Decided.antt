-- Laws on the whole decision: what the tables hold at its end is the plan made afresh. Assumes
-- nothing.
use mathlib.Core.Path.{◌≡◌, refl, sym, ◌∙◌, ap, subst, fun_ext}
use mathlib.Core.Bool.{Bool, false, cond, ◌&&◌}
use mathlib.Core.List.{List, [], ◌∷◌, ◌++◌, map, map-id, map-map}
use mathlib.Core.Logic.{◌⊎◌, inl, inr, ⊎_elim}
use Prim.Native.Nat.{ℕ, zero, suc, ◌+◌, ◌-◌, ◌/◌, ◌≤◌, ◌<◌, max}
use native.Mathlib.Omega.{arith}
use lib.ListN.{length, get_or, take, drop, replicate, length-append, length-drop, length-map, length-replicate}
use lib.Seq.{get_or-append-add, get_or-drop}
use lib.Dec.{T, leb, ltb, ltb→lt, nltb→le}
use native.Mathlib.Nat.{mul-le-mul_right}
use Rattle.theory_basics.specs.Sums.{pre}
use Rattle.theory_basics.specs.Tests.{All}
use Rattle.theory_basics.specs.lemmas.Ranges.{pre_mono}
use Rattle.theory_basics.specs.lemmas.Tests.{all_map, at_row, each_row, test, true_T}
use Rattle.theory_basics.specs.lemmas.Lists.{map_cong, each_of_map}
use Rattle.job.specs.Job.{Accepted, chunks, due, due_slot, forecast, held_most, Job, layers, Override, size, Within}
use Rattle.job.specs.declared.Programme.{Programme}
use Rattle.fetch.specs.Rows.{Row}
use Rattle.theory_plan.specs.lemmas.Parts.{at, left_before, left_after, padded, part_small}
use Rattle.theory_plan.specs.Plan.{picked}
use Rattle.theory_plan.specs.lemmas.Feasible.{need_of}
use Rattle.theory_plan.specs.lemmas.Ascending.{asc_lower, asc_within}
use Rattle.theory_plan.specs.lemmas.Kept.{picked_cong, picked_each}
use Rattle.theory_plan.specs.lemmas.Level.{level}
use Rattle.theory_plan.specs.lemmas.Linear.{needs_at, needs_of_lem}
use Rattle.theory_plan.specs.lemmas.Queue.{ones, releases, release_slots}
use Rattle.theory_plan.specs.lemmas.Trials.{back, bytes_kept, chunk_of, Kept, level_mark, mark_of, on_layer, on_layers, rooms, Stack, Tried}
use Rattle.theory_plan.specs.lemmas.Words.{carries, layer_of, due_slots}
use Rattle.theory_replan.specs.Plan.{after_from, busy}
use Rattle.theory_replan.specs.Statement.{Acceptable, IsReplan}
use Rattle.theory_replan.specs.lemmas.Criterion.{busy_from}
use Rattle.theory_replan.specs.lemmas.Held.{carries_row}
use Rattle.theory_replan.specs.lemmas.Linear.{new_bases}
use Rattle.theory_replan.specs.lemmas.Passes.{bases_new}
use Rattle.core_decide.proofs.Settle.{marks_of_lem, same_long}
use Rattle.core_decide.specs.lemmas.Decision.{kept_of, SettleLayersPost, SettleLayersPre, Slot, Sums, SumTable}
use Rattle.core_replan_decide.specs.lemmas.Decision.{Decided, DecidePre, DecidePost, job_from, Tabled}
use Rattle.core_replan_decide.specs.lemmas.Begun.{KeepBegunPost, KeepBegunPre, scan_front}
use Rattle.core_replan_decide.specs.lemmas.Composed.{below, front_kept, kept_rest, layers_kept, new_kept, news, nothing_fetched, passes_are_plan, rest}
use Rattle.core_replan_decide.specs.lemmas.Tables.{base_of, cap_of, Falls, FindFrontPost, is_begun, LastBegunPost, NewBasesPost, of}
use Rattle.theory_plan.specs.Bases.{Asc}
use Rattle.theory_plan.specs.lemmas.Layers.{on_layers_take}

-- ---- the forecast from a slot on

-- What a list sums to behind a first part.
pre_behind : (e part : List ℕ) (k : ℕ) → pre (λ u. at (e ++ part) (u - 1)) (length e + k) ≡ pre (λ u. at (e ++ part) (u - 1)) (length e) + pre (λ u. at part (u - 1)) k
pre_behind e part zero = let z : length e + 0 ≡ length e = omega arith in rw z (omega arith)
pre_behind e part (suc k) =
    let s : length e + suc k ≡ suc (length e + k) = omega arith in
    let o : suc (length e + k) - 1 ≡ length e + k = omega arith in
    let o' : suc k - 1 ≡ k = omega arith in
    let edge : get_or (e ++ part) (suc (length e + k) - 1) 0 ≡ get_or part (suc k - 1) 0 = rw (o, o') (get_or-append-add e part k 0) in
    rw s (omega (arith, pre_behind e part k, edge))

left_behind : (e part : List ℕ) (t : ℕ) → length e ≤ t → left_after (e ++ part) t ≡ pre (λ u. at part (u - 1)) (length part) - pre (λ u. at part (u - 1)) (t - length e)
left_behind e part t h =
    let k : length e + (t - length e) ≡ t = omega arith in
    let a = rw k at (pre_behind e part (t - length e)) in
    let n = length-append e part in
    rw n (omega (arith, a, pre_behind e part (length part)))

-- What the part leaves after a slot is what is forecast from start on.
pub left_from :
    (p : Programme) (sizes : List ℕ) (overrides : List Override) (earlier part : List ℕ) (start : ℕ) → start ≡ suc (length earlier) →
    Accepted (job_from p sizes overrides earlier part) → left_after (padded start part) ≡ after_from (job_from p sizes overrides earlier part) start
left_from p sizes overrides earlier part start st a =
    fun_ext (λ t.
    let j = job_from p sizes overrides earlier part in
    let m : length earlier ≡ start - 1 = omega arith in
    let r : length (replicate (start - 1) 0) ≡ start - 1 = length-replicate {A = ℕ} (start - 1) 0 in
    let t' : ℕ = max t (start - 1) in
    let one : left_after (padded start part) t ≡ left_after (padded start part) t' =
    ⊎_elim
    (λ x. let l = ltb→lt t (start - 1) x in let e : t' ≡ start - 1 = omega arith in left_before start part t (omega arith) ∙ rw e)
    (λ x. let l = nltb→le t (start - 1) x in let e : t' ≡ t = omega arith in rw e)
    (test (ltb t (start - 1))) in
    let two = rw r at (left_behind (replicate (start - 1) 0) part t' (omega (arith, r))) in
    let three = rw m at (left_behind earlier part t' (omega (arith, m))) in
    one ∙ two ∙ sym three ∙ ap (λ (n : ℕ). pre (forecast j) n - pre (forecast j) t') a.slots_in)

-- So is the table of sums.
sums_are :
    (p : Programme) (sizes : List ℕ) (overrides : List Override) (earlier part : List ℕ) (start : ℕ) → start ≡ suc (length earlier) →
    Accepted (job_from p sizes overrides earlier part) → (table : List ℕ) → SumTable start part table → at table ≡ after_from (job_from p sizes overrides earlier part) start
sums_are p sizes overrides earlier part start st a table s = fun_ext s.is ∙ left_from p sizes overrides earlier part start st a

-- ---- what the functions ask of each other

module _ {p : Programme} {layers start : ℕ} {part : List ℕ} {left : ℕ → ℕ → ℕ} {begun whole ids ready mark : List ℕ} (o : DecidePre p layers start part left begun whole ids ready mark) where
  pub sums_small : {table : List ℕ} → SumTable start part table → Sums table
  sums_small {table} s k = rw (s.is k) (part_small start part o.part_in k)

  pub begun_from_lem :
      {table front caps ids₁ dues₁ bytes₁ mark₁ needs₁ : List ℕ} {last head new held need_of : ℕ} → SumTable start part table → last ≤ p.chunks → FindFrontPost p start last begun table head front caps →
      NewBasesPost p start held last left table caps head new ids₁ dues₁ bytes₁ mark₁ needs₁ → need_of ≡ get_or needs₁ (new + 0) 0 →
      KeepBegunPre p left whole table front head need_of new ids₁ dues₁ bytes₁ mark₁
  begun_from_lem {table} {front} {caps} {ids₁} {dues₁} {bytes₁} {last = last} {head} {new} s lp f n e =
      let z : new + 0 ≡ new = omega arith in
      let ns = drop new ids₁ in
      record {
        fine = o.fine;
        small = o.small;
        sums = sums_small s;
        fb_in = f.within;
        chunks_in = asc_within 1 last 1 p.chunks (drop head front) (omega arith) lp f.ascending;
        need_in = rw (e, z) (omega (arith, n.top, sums_small s 0));
        room = omega (arith, f.room, n.room);
        within = n.within;
        ids_in = asc_within (suc last) p.chunks 1 p.chunks ns (omega arith) (omega arith) n.ascending;
        slots = subst (All Slot) (sym n.due_slots) (due_slots p o.fine.late o.fine.ends (suc last) ns n.ascending);
        light = subst (All (λ b. b ≤ 16777216)) (sym n.base_bytes) (each_of_map (λ b. b ≤ 16777216) (base_of left) (λ k. o.small k 0) ns);
        long = (o.long.1, s.long, f.long.0, n.long.0, n.long.1, n.long.2, n.long.3);
      }

  pub layers_from_lem :
      {table front ids₁ dues₁ bytes₁ mark₁ ids₂ dues₂ bytes₂ mark₂ ready₂ room : List ℕ} {head new first need_of : ℕ} (held : ℕ) → SumTable start part table →
      KeepBegunPost p left whole table front head need_of new ids₁ dues₁ bytes₁ mark₁ first ids₂ dues₂ bytes₂ mark₂ →
      length ready₂ ≡ 500 → drop first ready₂ ≡ take (500 - first) (ones held ++ drop first dues₂) → length room ≡ 500 →
      SettleLayersPre layers left table ids₂ dues₂ ready₂ first bytes₂ room mark₂
  layers_from_lem {ids₂ = ids₂} {dues₂ = dues₂} {first = first} held s b lr r lm =
      record {
        some = o.some;
        few = o.few_layers;
        small = o.small;
        chunks_in = all_map (Within 1 p.chunks) (Within 1 500) (drop first ids₂) (λ x w. record { low = w.low; high = omega (arith, w.high, o.fine.few) }) b.ids_in;
        sums = sums_small s;
        due_slots = b.slots;
        release_slots = subst (All Slot) (sym r) (release_slots held (500 - first) (drop first dues₂) b.slots);
        within = b.within;
        carried = b.light;
        long = (s.long, b.long.0, b.long.1, lr, b.long.2, lm, b.long.3);
      }

-- ---- congruence: the passes ask of the tables for the chunks at hand alone

new_cong :
    (s s' d A : ℕ → ℕ) (p h : ℕ) (bs : List ℕ) (lo m : ℕ) → ((i : ℕ) → lo < i → i ≤ lo + m → s i ≡ s' i) →
    bases_new s d A p h bs lo m ≡ bases_new s' d A p h bs lo m
new_cong s s' d A p h bs lo zero f = refl
new_cong s s' d A p h bs lo (suc m) f =
    rw (new_cong s s' d A p h bs (suc lo) m (λ i u v. f i (omega arith) (omega arith)), f (suc lo) (omega arith) (omega arith))

scan_cong :
    (s s' d A w w' : ℕ → ℕ) (cap n : ℕ) (ks : List Kept) (bs : List ℕ) → All (λ b. (s b ≡ s' b) × (w b ≡ w' b)) bs →
    scan_front s d A w cap n ks bs ≡ scan_front s' d A w' cap n ks bs
scan_cong s s' d A w w' cap n ks [] a = refl
scan_cong s s' d A w w' cap n ks (b ∷ bs) a = rw (scan_cong s s' d A w w' cap n ks bs a.1, a.0.0, a.0.1)

back_cong :
    (size size' : ℕ → ℕ → ℕ) (A : ℕ → ℕ) (n : ℕ) (hs : List ℕ) (ks : List Kept) → All (λ k. size k.chunk n ≡ size' k.chunk n) ks →
    back size A n hs ks ≡ back size' A n hs ks
unfolding back
back_cong size size' A n hs [] a = refl
back_cong size size' A n hs (k ∷ ks) a = rw (back_cong size size' A n (drop 1 hs) ks a.1, a.0)

-- ---- lists

picked_front : (f : ℕ → Bool) (lo n m : ℕ) → ((i : ℕ) → n + lo < i → i ≤ n + lo + m → f i ≡ false) → picked f lo (n + m) ≡ picked f lo n
picked_front f lo zero m edge = let e : 0 + m ≡ m = omega arith in rw e (none lo m (λ i u v. edge i (omega arith) (omega arith)))
  where
    none : (lo m : ℕ) → ((i : ℕ) → lo < i → i ≤ lo + m → f i ≡ false) → picked f lo m ≡ []
    none lo zero edge = refl
    none lo (suc m) edge = rw (edge (suc lo) (omega arith) (omega arith)) (none (suc lo) m (λ i u v. edge i (omega arith) (omega arith)))
picked_front f lo (suc n) m edge =
    let e : suc n + m ≡ suc (n + m) = omega arith in
    rw e (ap (λ (l : List ℕ). cond (f (suc lo)) (suc lo ∷ l) l) (picked_front f (suc lo) n m (λ i u v. edge i (omega arith) (omega arith))))

asc_join : (lo mid hi : ℕ) (a b : List ℕ) → lo ≤ suc mid → mid ≤ hi → Asc lo mid a → Asc (suc mid) hi b → Asc lo hi (a ++ b)
asc_join lo mid hi [] b u v x y = asc_lower lo (suc mid) hi b u y
asc_join lo mid hi (k ∷ a) b u v x y = (x.0, omega (arith, x.1), asc_join (suc k) mid hi a b (omega (arith, x.1)) v x.2 y)

chunks_of : (is ds bs ms : List ℕ) → length is ≡ length ds → length is ≡ length bs → length is ≡ length ms → map chunk_of (kept_of is ds bs ms) ≡ is
chunks_of [] ds bs ms d b m = refl
chunks_of (i ∷ is) [] bs ms d b m = absurd (omega arith)
chunks_of (i ∷ is) (x ∷ ds) [] ms d b m = absurd (omega arith)
chunks_of (i ∷ is) (x ∷ ds) (y ∷ bs) [] d b m = absurd (omega arith)
chunks_of (i ∷ is) (x ∷ ds) (y ∷ bs) (z ∷ ms) d b m = ap (λ (l : List ℕ). i ∷ l) (chunks_of is ds bs ms (omega arith) (omega arith) (omega arith))

dues_of : (is ds bs ms : List ℕ) → length is ≡ length ds → length is ≡ length bs → length is ≡ length ms → map (λ k. k.due) (kept_of is ds bs ms) ≡ ds
dues_of [] [] bs ms d b m = refl
dues_of [] (x ∷ ds) bs ms d b m = absurd (omega arith)
dues_of (i ∷ is) [] bs ms d b m = absurd (omega arith)
dues_of (i ∷ is) (x ∷ ds) [] ms d b m = absurd (omega arith)
dues_of (i ∷ is) (x ∷ ds) (y ∷ bs) [] d b m = absurd (omega arith)
dues_of (i ∷ is) (x ∷ ds) (y ∷ bs) (z ∷ ms) d b m = ap (λ (l : List ℕ). x ∷ l) (dues_of is ds bs ms (omega arith) (omega arith) (omega arith))

-- ---- the whole, for one job

module _
    (p : Programme) (sizes : List ℕ) (overrides : List Override) (earlier part : List ℕ) (start : ℕ) (fetched : List Row) (plan : ℕ → ℕ)
    (st : start ≡ suc (length earlier))
    (a : Accepted (job_from p sizes overrides earlier part)) (ok : Acceptable (job_from p sizes overrides earlier part) start fetched)
    (left : ℕ → ℕ → ℕ) (begun whole : List ℕ) (tab : Tabled (job_from p sizes overrides earlier part) fetched left begun whole)
    (d : IsReplan (job_from p sizes overrides earlier part) start fetched plan)
    (table : List ℕ) (s : SumTable start part table) (last : ℕ) (lb : LastBegunPost p begun last) where
  abbrev j : Job
  j = job_from p sizes overrides earlier part

  abbrev A : ℕ → ℕ
  A = after_from j start

  A_is : at table ≡ A
  A_is = sums_are p sizes overrides earlier part start st a table s

  abbrev flagged : ℕ → Bool
  flagged i = carries fetched i && leb start (due j i)

  behind : All (λ x. x.chunk ≤ last) fetched
  behind =
      each_row (λ x. x.chunk ≤ last) fetched (λ x i.
      let r = at_row (λ (x : Row). (1 ≤ x.chunk) × (x.chunk ≤ chunks j)) i (all_map _ (λ (x : Row). (1 ≤ x.chunk) × (x.chunk ≤ chunks j)) fetched (λ y w. (w.chunk_low, w.chunk_high)) ok.in_range_lem) in
      ⊎_elim
      (λ t. let l = ltb→lt last x.chunk t in absurd (subst T (sym (tab.begun_is x.chunk r.0 r.1) ∙ lb.behind x.chunk l r.1) (carries_row fetched x.chunk x i refl)))
      (λ t. nltb→le last x.chunk t)
      (test (ltb last x.chunk)))

  top : (last ≡ 0) ⊎ T (carries fetched last)
  top =
      ⊎_elim
      (λ e. inl e)
      (λ e. ⊎_elim (λ t. inr (true_T _ (sym (tab.begun_is last (ltb→lt 0 last t) lb.within) ∙ e))) (λ t. inl (omega (arith, nltb→le 0 last t))) (test (ltb 0 last)))
      lb.top

  abbrev cs : List ℕ
  cs = busy_from j start fetched plan

  abbrev ns : List ℕ
  ns = news j a start fetched ok plan d last behind top lb.within

  -- The begun chunks, by the rows.
  begun_list : picked (is_begun p start begun) 0 last ≡ picked flagged 0 last
  begun_list = picked_cong (is_begun p start begun) flagged 0 last (λ i u v. ap (λ (b : Bool). b && leb start (due j i)) (tab.begun_is i u (omega (arith, lb.within))))

  begun_all : picked flagged 0 last ≡ picked flagged 0 (chunks j)
  begun_all =
      let e : chunks j ≡ last + (chunks j - last) = omega (arith, lb.within) in
      sym (ap (picked flagged 0) e ∙ picked_front flagged 0 last (chunks j - last) (λ i u v.
      let h : i ≤ chunks j = omega (arith, lb.within) in
      ap (λ (b : Bool). b && leb start (due j i)) (sym (tab.begun_is i (omega arith) h) ∙ lb.behind i (omega arith) h)))

  left_base : (i : ℕ) → 1 ≤ i → i ≤ chunks j → base_of left i ≡ rest j fetched i 0
  left_base i u v = tab.left_is i 0 (layer_of j i 0 u v a.layers_in.low)

  left_new : (i : ℕ) → last < i → i ≤ chunks j → base_of left i ≡ size j i 0
  left_new i u v = left_base i (omega arith) v ∙ omega (arith, nothing_fetched j a start fetched ok plan d last behind top lb.within i 0 u)

  module _ {front caps : List ℕ} {head : ℕ} (f : FindFrontPost p start last begun table head front caps)
      {held new : ℕ} (h : held ≡ p.limit / p.span) {ids₁ dues₁ bytes₁ mark₁ needs₁ : List ℕ} (n : NewBasesPost p start held last left table caps head new ids₁ dues₁ bytes₁ mark₁ needs₁) where
    front_is : drop head front ≡ picked flagged 0 last
    front_is = f.chunks ∙ begun_list

    new_is : ◌≡◌ {A = Stack} (record { needs = drop new needs₁; chunks = drop new ids₁ }) (record { needs = needs_of_lem (λ k. size j k 0) (due j) A ns; chunks = ns })
    new_is =
        n.kept (drop head front) f.caps_are
        ∙ ap (λ (bs : List ℕ). bases_new (base_of left) (due_slot p) (at table) start held bs last (chunks j - last)) (front_is ∙ begun_all)
        ∙ ap (λ (B : ℕ → ℕ). bases_new (base_of left) (due_slot p) B start held (picked flagged 0 (chunks j)) last (chunks j - last)) A_is
        ∙ ap (λ (m : ℕ). bases_new (base_of left) (due_slot p) A start m (picked flagged 0 (chunks j)) last (chunks j - last)) h
        ∙ new_cong (base_of left) (λ k. size j k 0) (due j) A start (held_most j) (picked flagged 0 (chunks j)) last (chunks j - last) (λ i u v. left_new i u (omega (arith, lb.within)))
        ∙ new_bases j a start fetched ok plan d last behind top lb.within

    ids_new : drop new ids₁ ≡ ns
    ids_new = ap (λ (o : Stack). o.chunks) new_is

    module _ {need₁ : ℕ} (ne : need₁ ≡ get_or needs₁ (new + 0) 0) where
      need_new : need₁ ≡ need_of (λ k. size j k 0) (due j) A ns
      need_new = ne ∙ sym (get_or-drop new needs₁ 0 0) ∙ ap (λ (o : Stack). get_or o.needs 0 0) new_is ∙ needs_at (λ k. size j k 0) (due j) A ns 0

      tables_new : kept_of (drop new ids₁) (drop new dues₁) (drop new bytes₁) (drop new mark₁) ≡ map (kept_rest j fetched (below j fetched plan 1)) ns
      tables_new =
          let ks = drop new ids₁ in
          ap (λ (l : List ℕ). kept_of ks l (drop new bytes₁) (drop new mark₁)) n.due_slots
          ∙ ap (λ (l : List ℕ). kept_of ks (map (due_slot p) ks) l (drop new mark₁)) n.base_bytes
          ∙ ap (λ (l : List ℕ). kept_of ks (map (due_slot p) ks) (map (base_of left) ks) l) n.marks
          ∙ ap (λ (l : List ℕ). kept_of l (map (due_slot p) l) (map (base_of left) l) (map (λ k. 1) l)) ids_new
          ∙ ap (λ (l : List ℕ). kept_of ns (map (due_slot p) ns) l (map (λ k. 1) ns)) (map_cong (base_of left) (λ k. size j k 0) ns (picked_each (λ i. leb 1 (plan i)) (λ k. base_of left k ≡ size j k 0) last (chunks j - last) (λ i u v t. left_new i u (omega (arith, lb.within)))))
          ∙ new_kept j a start fetched ok plan d last behind top lb.within

      module _ {first : ℕ} {ids₂ dues₂ bytes₂ mark₂ : List ℕ} (b : KeepBegunPost p left whole table front head need₁ new ids₁ dues₁ bytes₁ mark₁ first ids₂ dues₂ bytes₂ mark₂) where
        abbrev b1 : ℕ → ℕ
        b1 = below j fetched plan 1

        abbrev wm : ℕ → ℕ
        wm k = level_mark (level j fetched k)

        -- The base passes make the chunks begun or kept.
        based_is : kept_of (drop first ids₂) (drop first dues₂) (drop first bytes₂) (drop first mark₂) ≡ map (kept_rest j fetched b1) cs
        based_is =
            b.kept
            ∙ ap (λ (ks : List Kept). (scan_front (base_of left) (due_slot p) (at table) (of whole) (at table 0) need₁ ks (drop head front)).kept) tables_new
            ∙ ap (λ (m : ℕ). (scan_front (base_of left) (due_slot p) (at table) (of whole) (at table 0) m (map (kept_rest j fetched b1) ns) (drop head front)).kept) need_new
            ∙ ap (λ (l : List ℕ). (scan_front (base_of left) (due_slot p) (at table) (of whole) (at table 0) (need_of (λ k. size j k 0) (due j) A ns) (map (kept_rest j fetched b1) ns) l).kept) front_is
            ∙ ap (λ (B : ℕ → ℕ). (scan_front (base_of left) (due_slot p) B (of whole) (B 0) (need_of (λ k. size j k 0) (due j) A ns) (map (kept_rest j fetched b1) ns) (picked flagged 0 last)).kept) A_is
            ∙ ap (λ (o : Tried). o.kept) (scan_cong (base_of left) (λ k. rest j fetched k 0) (due j) A (of whole) wm (A 0) (need_of (λ k. size j k 0) (due j) A ns) (map (kept_rest j fetched b1) ns) (picked flagged 0 last)
            (picked_each flagged (λ k. (base_of left k ≡ rest j fetched k 0) × (of whole k ≡ wm k)) 0 last (λ k u v t. (left_base k u (omega (arith, lb.within)), tab.whole_is k u (omega (arith, lb.within))))))
            ∙ front_kept j a start fetched ok plan d last behind top lb.within

        same : (l : List ℕ) → length l ≡ 500 → length (drop first ids₂) ≡ length (drop first l)
        same l e = same_long ids₂ l first b.long.0 e

        ids_are : drop first ids₂ ≡ cs
        ids_are =
            sym (chunks_of (drop first ids₂) (drop first dues₂) (drop first bytes₂) (drop first mark₂) (same dues₂ b.long.1) (same bytes₂ b.long.2) (same mark₂ b.long.3))
            ∙ ap (map chunk_of) based_is ∙ map-map chunk_of (kept_rest j fetched b1) cs ∙ map-id cs

        dues_are : drop first dues₂ ≡ map (due j) cs
        dues_are =
            sym (dues_of (drop first ids₂) (drop first dues₂) (drop first bytes₂) (drop first mark₂) (same dues₂ b.long.1) (same bytes₂ b.long.2) (same mark₂ b.long.3))
            ∙ ap (map (λ k. k.due)) based_is ∙ map-map (λ k. k.due) (kept_rest j fetched b1) cs

        module _ (ready : List ℕ) (r : drop first ready ≡ take (500 - first) (ones held ++ drop first dues₂)) where
          abbrev rs : List ℕ
          rs = releases (due j) (held_most j) cs

          released : drop first ready ≡ take (500 - first) rs
          released = r ∙ ap (λ (m : ℕ). take (500 - first) (ones m ++ drop first dues₂)) h ∙ ap (λ (l : List ℕ). take (500 - first) (ones (held_most j) ++ l)) dues_are

          -- Layer by layer, by the table of what is left.
          layers_left_lem : (m : ℕ) → m < layers j → on_layers (left) A (A 0) rs m (map (kept_rest j fetched b1) cs) ≡ map (kept_rest j fetched (below j fetched plan (suc m))) cs
          layers_left_lem zero u = refl
          layers_left_lem (suc m) u =
              let lv = below j fetched plan (suc m) in
              let here = map (kept_rest j fetched lv) cs in
              ap (on_layer (left) A (A 0) rs (suc m)) (layers_left_lem m (omega arith))
              ∙ ap (λ (o : Tried). o.kept) (back_cong (left) (rest j fetched) A (suc m) (rooms A (A 0) (map bytes_kept here) rs) here (in_table cs (picked_each (λ i. busy fetched plan i && leb start (due j i)) (λ k. left k (suc m) ≡ rest j fetched k (suc m)) 0 (chunks j) (λ k x y t. tab.left_is k (suc m) (layer_of j k (suc m) x (omega arith) u)))))
              ∙ sym (ap (on_layer (rest j fetched) A (A 0) rs (suc m)) (layers_kept j a start fetched ok plan d last behind top lb.within m (omega arith)))
              ∙ layers_kept j a start fetched ok plan d last behind top lb.within (suc m) u
            where
              in_table : (l : List ℕ) → All (λ k. left k (suc m) ≡ rest j fetched k (suc m)) l → All (λ (k : Kept). left k.chunk (suc m) ≡ rest j fetched k.chunk (suc m)) (map (kept_rest j fetched (below j fetched plan (suc m))) l)
              in_table [] e = tt
              in_table (k ∷ l) e = (e.0, in_table l e.1)

          module _ {count : ℕ} (le : count ≡ length sizes) {all : ℕ} (ae : all ≡ get_or table 0 0) {bytes₃ mark₃ : List ℕ} (y : SettleLayersPost count left all table ids₂ dues₂ ready first bytes₂ mark₂ bytes₃ mark₃) where
            many : length (map (kept_rest j fetched b1) cs) ≡ 500 - first
            many = length-map cs (kept_rest j fetched b1) ∙ sym (ap length ids_are) ∙ length-drop first ids₂ ∙ ap (λ (m : ℕ). m - first) b.long.0

            whole_is : kept_of (drop first ids₂) (drop first dues₂) (drop first bytes₃) (drop first mark₃) ≡ map (kept_rest j fetched plan) cs
            whole_is =
                let K = map (kept_rest j fetched b1) cs in
                let up : suc (length sizes - 1) ≡ length sizes = omega (arith, a.layers_in.low) in
                y.kept
                ∙ ap (on_layers (left) (at table) all (drop first ready) (count - 1)) based_is
                ∙ ap (λ (l : List ℕ). on_layers (left) (at table) all l (count - 1) K) (released ∙ ap (λ (m : ℕ). take m rs) (sym many))
                ∙ on_layers_take (left) (at table) all rs (count - 1) K
                ∙ ap (λ (m : ℕ). on_layers (left) (at table) m rs (count - 1) K) ae
                ∙ ap (λ (m : ℕ). on_layers (left) (at table) (at table 0) rs (m - 1) K) le
                ∙ ap (λ (B : ℕ → ℕ). on_layers (left) B (B 0) rs (length sizes - 1) K) A_is
                ∙ layers_left_lem (length sizes - 1) (omega (arith, a.layers_in.low))
                ∙ ap (λ (m : ℕ). map (kept_rest j fetched (below j fetched plan m)) cs) up
                ∙ passes_are_plan j a start fetched ok plan d last behind top lb.within

            pub decided : Decided j start fetched plan first ids₂ ready mark₃
            decided =
                record {
                  chunks_are = ids_are;
                  releases_are = released;
                  marks =
                      sym (marks_of_lem (drop first ids₂) (drop first dues₂) (drop first bytes₃) (drop first mark₃) (same dues₂ b.long.1) (same bytes₃ y.long.0) (same mark₃ y.long.1))
                      ∙ ap (map mark_of) whole_is ∙ map-map mark_of (kept_rest j fetched plan) cs;
                }

-- The whole, for every job with these tables.
pub decides :
    {p : Programme} {layers start : ℕ} {part : List ℕ} {left : ℕ → ℕ → ℕ} {begun whole ids ready mark : List ℕ} (o : DecidePre p layers start part left begun whole ids ready mark)
    {table : List ℕ} (s : SumTable start part table) {last : ℕ} (lb : LastBegunPost p begun last)
    {front caps : List ℕ} {head : ℕ} (f : FindFrontPost p start last begun table head front caps)
    {held new : ℕ} (h : held ≡ p.limit / p.span) {ids₁ dues₁ bytes₁ mark₁ needs₁ : List ℕ} (n : NewBasesPost p start held last left table caps head new ids₁ dues₁ bytes₁ mark₁ needs₁)
    {need₁ : ℕ} (ne : need₁ ≡ get_or needs₁ (new + 0) 0)
    {first : ℕ} {ids₂ dues₂ bytes₂ mark₂ : List ℕ} (b : KeepBegunPost p left whole table front head need₁ new ids₁ dues₁ bytes₁ mark₁ first ids₂ dues₂ bytes₂ mark₂)
    (ready₂ : List ℕ) → length ready₂ ≡ 500 → drop first ready₂ ≡ take (500 - first) (ones held ++ drop first dues₂) →
    {all : ℕ} → all ≡ get_or table 0 0 → {bytes₃ mark₃ : List ℕ} → SettleLayersPost layers left all table ids₂ dues₂ ready₂ first bytes₂ mark₂ bytes₃ mark₃ →
    DecidePost p layers start part left begun whole first ids₂ ready₂ mark₃
decides {p} {layers} {start} {part} {left} {begun} {whole} o {table} s {last} lb {front} {head = head} f {new = new} h {ids₁ = ids₁} n ne b ready₂ lr r ae y =
    record {
      within = b.within;
      ascending = rw b.ids_are (asc_join 1 last p.chunks (drop head front) (drop new ids₁) (omega arith) lb.within f.ascending n.ascending);
      decided = λ sizes overrides earlier fetched plan le st a ok tab d. decided p sizes overrides earlier part start fetched plan st a ok left begun whole tab d table s last lb f h n ne b ready₂ r le ae y;
      long = (b.long.0, lr, y.long.1);
    }

-- ---- the caps fall: a later chunk is due later, and less is forecast after it

list_below : (f : ℕ → ℕ) → ((x y : ℕ) → x ≤ y → f y ≤ f x) → (lo hi k : ℕ) (ks : List ℕ) → Asc lo hi ks → k ≤ lo → (b : ℕ) → b < length ks → get_or (map f ks) b 0 ≤ f k
list_below f anti lo hi k [] a l b h = absurd (omega arith)
list_below f anti lo hi k (x ∷ ks) a l zero h = anti k x (omega (arith, a.0))
list_below f anti lo hi k (x ∷ ks) a l (suc b) h = list_below f anti (suc x) hi k ks a.2 (omega (arith, a.0)) b (omega arith)

list_falls : (f : ℕ → ℕ) → ((x y : ℕ) → x ≤ y → f y ≤ f x) → (lo hi : ℕ) (ks : List ℕ) → Asc lo hi ks → (a b : ℕ) → a ≤ b → b < length ks → get_or (map f ks) b 0 ≤ get_or (map f ks) a 0
list_falls f anti lo hi [] s a b l h = absurd (omega arith)
list_falls f anti lo hi (x ∷ ks) s zero zero l h = omega arith
list_falls f anti lo hi (x ∷ ks) s zero (suc b) l h = list_below f anti (suc x) hi x ks s.2 (omega arith) b (omega arith)
list_falls f anti lo hi (x ∷ ks) s (suc a) zero l h = absurd (omega arith)
list_falls f anti lo hi (x ∷ ks) s (suc a) (suc b) l h = list_falls f anti (suc x) hi ks s.2 a b (omega arith) (omega arith)

pub front_falls : {p : Programme} {start last : ℕ} {part begun table front caps : List ℕ} {head : ℕ} → SumTable start part table → FindFrontPost p start last begun table head front caps → Falls caps head
front_falls {p} {start} {last} {part} {begun} {table} {front} {caps} {head} s f x y a b c =
    let e : head + (x - head) ≡ x = omega arith in
    let e' : head + (y - head) ≡ y = omega arith in
    let n : length (drop head front) ≡ 500 - head = length-drop head front ∙ ap (λ (m : ℕ). m - head) f.long.0 in
    let at_x : get_or (map (cap_of p table) (drop head front)) (x - head) 0 ≡ get_or caps x 0 = ap (λ (l : List ℕ). get_or l (x - head) 0) (sym f.caps_are) ∙ get_or-drop head caps (x - head) 0 ∙ rw e in
    let at_y : get_or (map (cap_of p table) (drop head front)) (y - head) 0 ≡ get_or caps y 0 = ap (λ (l : List ℕ). get_or l (y - head) 0) (sym f.caps_are) ∙ get_or-drop head caps (y - head) 0 ∙ rw e' in
    omega (arith, at_x, at_y, list_falls (cap_of p table) anti 1 last (drop head front) f.ascending (x - head) (y - head) (omega arith) (omega (arith, n)))
  where
    anti : (i k : ℕ) → i ≤ k → cap_of p table k ≤ cap_of p table i
    anti i k l =
        let d : due_slot p i ≤ due_slot p k = omega (arith, mul-le-mul_right {m = i - 1} {n = k - 1} p.span (omega arith)) in
        let u = s.is (due_slot p i - 1) in
        let v = s.is (due_slot p k - 1) in
        let m = pre_mono (λ t. at (padded start part) (t - 1)) (due_slot p i - 1) (due_slot p k - 1) (omega arith) in
        omega (arith, u, v, m)
