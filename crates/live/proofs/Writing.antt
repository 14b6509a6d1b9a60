-- Laws on what the call hands over: its refusals in their order, then the pieces. Assumes nothing.
use Prim.Native.Nat.{ℕ, ◌-◌, ◌≤◌}
use mathlib.Core.Path.{◌≡◌, refl, sym, ◌∙◌, ap, subst}
use mathlib.Core.Bool.{Bool, true, false, ◌&&◌}
use mathlib.Core.List.{List, ◌++◌}
use native.Mathlib.Omega.{arith}
use lib.Dec.{eqb, leb}
use lib.ListN.{length, drop, take, take-append-drop}
use borrow.Author.Tests.{ne_eqb, le-leb}
use Rattle.std.specs.Prelude.{Result as Answer, Ok, Err}
use Rattle.theory_basics.specs.Lent.{over}
use Rattle.theory_basics.specs.Refusals.{unless}
use Rattle.theory_basics.specs.lemmas.Refusals.{or_else_none, or_else_some}
use Rattle.refusals.specs.declared.Refusal.{Refusal}
use Rattle.refusals.specs.declared.Refusal.TheVariants.{ShortBuffer}
use Rattle.refusals.specs.Numbers.{number_of}
use Rattle.refusals.specs.Laws.{number_above_0}
use Rattle.job.specs.Input.{job_in}
use Rattle.job.specs.Job.{job_of}
use Rattle.core_sizes.specs.Table.{table_at}
use Rattle.core_replan_decide.specs.lemmas.Decision.{Tabled}
use Rattle.core_live.specs.lemmas.ByTables.{AskPost, AskPre, PiecesStand}
use Rattle.replan.specs.Answer as replan
use Rattle.replan.specs.lemmas.Afresh.{Gathered}
use Rattle.live.specs.Answer.{fetched, LiveOutput, holds, input_refusal, LiveInput, LivePromise, pieces, PieceSlices, refusal}
use Rattle.live.specs.Theorems.{acceptable, accepted, refused_as_replan, few_pieces, safe_pieces}

module _ (i : LiveInput) (l : PieceSlices) where
  promised : {r : Answer ℕ Refusal} {l' : PieceSlices} (refused : ℕ) → refusal i l ≡ refused → LiveOutput refused (pieces i) l r l' → LivePromise i l r l'
  promised {r} {l'} refused e x =
      record {
        output = subst (λ (k : ℕ). LiveOutput k (pieces i) l r l') (sym e) x;
        few = few_pieces i;
        safe = safe_pieces i;
      }

  only_number : (e : Refusal) → LiveOutput (number_of e) (pieces i) l (Err e) l
  only_number e =
      let n : eqb (number_of e) 0 ≡ false = ne_eqb (number_of e) 0 (λ z. omega (arith, number_above_0 e)) in
      record { answer = rw n; chunks_are = rw n; layers_are = rw n; bytes_are = rw n }

  refused_input : (e : Refusal) → number_of e ≡ input_refusal i → LivePromise i l (Err e) l
  refused_input e is =
      promised (number_of e)
      (or_else_some (input_refusal i) (unless 11 (holds (pieces i) l)) (λ z. omega (arith, is, number_above_0 e)) ∙ sym is) (only_number e)

  -- With the job's forecast from the slot on, whatever it is named.
  module _ (rest : List ℕ) (unchanged : rest ≡ drop (i.slot - 1) i.job.forecast) where
    abbrev o : replan.ReplanInput
    o = replan.replan_input i.slot i.rows.slots i.rows.chunks i.rows.layers i.rows.bytes rest

    refused_is : replan.input_refusal i.job o ≡ input_refusal i
    refused_is =
        ap (λ (f : List ℕ). replan.input_refusal i.job (replan.replan_input i.slot i.rows.slots i.rows.chunks i.rows.layers i.rows.bytes f)) unchanged
        ∙ refused_as_replan i

    -- All but 11.
    pub refused_fetched : (e : Refusal) → number_of e ≡ replan.input_refusal i.job o → LivePromise i l (Err e) l
    refused_fetched e is = refused_input e (is ∙ refused_is)

    module _ (z : replan.input_refusal i.job o ≡ 0) {left begun whole : List ℕ} (g : Gathered i.job o left begun whole) where
      none : input_refusal i ≡ 0
      none = sym refused_is ∙ z

      tabled : Tabled (job_in i.job) (fetched i) (table_at left) begun whole
      tabled =
          subst (λ (f : List ℕ). Tabled (job_of i.job.programme i.job.sizes (job_in i.job).overrides f) (fetched i) (table_at left) begun whole)
          (ap (λ (f : List ℕ). take (i.slot - 1) i.job.forecast ++ f) unchanged ∙ take-append-drop (i.slot - 1) i.job.forecast) g.tabled

      pub few_layers : length i.job.sizes ≤ 4
      few_layers = (accepted i none).layers_in.high

      pub ask_from : AskPre i.job.programme (length i.job.sizes)
      ask_from =
          let a = accepted i none in
          record { fine = record { few = a.chunks_in.high; late = a.delay_in.low; ends = a.last_in }; few_layers = few_layers }

      module _ {n : ℕ} {cs ls bs : List ℕ} (a : AskPost i.job.programme (length i.job.sizes) i.slot i.rate (table_at left) begun n cs ls bs) where
        stand : PiecesStand (pieces i) n cs ls bs
        stand = a.stand i.job.sizes (job_in i.job).overrides i.job.forecast (fetched i) whole refl (accepted i none) (acceptable i none) tabled

        or_short : (b : Bool) → holds (pieces i) l ≡ b → refusal i l ≡ unless 11 b
        or_short b e = or_else_none (input_refusal i) (unless 11 (holds (pieces i) l)) none ∙ ap (unless 11) e

        -- They fit, and are copied.
        pub handed_whole :
            n ≤ length l.chunks → n ≤ length l.layers → n ≤ length l.bytes →
            {l' : PieceSlices} → l'.chunks ≡ over (take n cs) l.chunks → l'.layers ≡ over (take n ls) l.layers →
            l'.bytes ≡ over (take n bs) l.bytes → LivePromise i l (Ok n) l'
        handed_whole hc hl hb {l'} c y b =
            let s = stand in
            let h : holds (pieces i) l ≡ true = rw (sym s.many, le-leb n (length l.chunks) hc, le-leb n (length l.layers) hl, le-leb n (length l.bytes) hb) refl in
            promised 0 (or_short true h) (record {
              answer = ap Ok s.many;
              chunks_are = c ∙ ap (λ (x : List ℕ). over x l.chunks) s.chunks_are;
              layers_are = y ∙ ap (λ (x : List ℕ). over x l.layers) s.layers_are;
              bytes_are = b ∙ ap (λ (x : List ℕ). over x l.bytes) s.bytes_are;
            })

        -- They don't, and nothing is written.
        pub output_short : leb n (length l.chunks) && (leb n (length l.layers) && leb n (length l.bytes)) ≡ false → LivePromise i l (Err ShortBuffer) l
        output_short h = promised 11 (or_short false (rw (sym stand.many) h)) (only_number ShortBuffer)
