-- Lemmas. The answer of the reader and the lent buffers afterwards, by what the loop found. Assumes
-- nothing.
use Prim.Native.Nat.{ℕ, ◌*◌, ◌-◌, ◌≤◌}
use mathlib.Core.Path.{◌≡◌, sym, ap, ◌∙◌}
use mathlib.Core.Bool.{Bool, ◌&&◌}
use mathlib.Core.List.{List, ◌++◌}
use native.Mathlib.Omega.{arith}
use lib.ListN.{length, take, drop}
use lib.Seq.{length-take-le}
use lib.Dec.{leb}
use Rattle.std.specs.Prelude.{Ok, Err}
use borrow.Author.Tests.{ne_eqb}
use Rattle.theory_basics.specs.Lent.{over}
use Rattle.theory_basics.specs.lemmas.Tests.{and_T, leb_iff}
use Rattle.theory_basics.specs.Refusals.{unless}
use Rattle.theory_basics.specs.lemmas.Refusals.{unless_iff, or_else_none, or_else_some}
use Rattle.records.specs.File.{records_refusal, file_refusal}
use Rattle.job.specs.Job.{Job}
use Rattle.job.specs.Input.{override_chunks, override_layers, override_bytes}
use Rattle.refusals.specs.declared.Refusal.{Refusal}
use Rattle.refusals.specs.Numbers.{number_of}
use Rattle.refusals.specs.Laws.{number_above_0}
use Rattle.jobrecords.specs.declared.ReadJob.{ReadJob}
use Rattle.jobrecords.specs.declared.Progress.{Progress}
use Rattle.jobrecords.specs.Refusal.{format, refusal_of, job_of_file}
use Rattle.jobrecords.specs.Reader.{Buffers, buffers, room_refusal, job_answer, lent_by, job_read_refusal, read_answer, lent_read, JobReadPromise}
use Rattle.jobrecords.specs.lemmas.Reading.{counted, job_from, Complete, Refuses, room_by}
use Rattle.jobrecords.proofs.Uneven.{how_many}

-- Lent buffers hold so many layers, SZs and slots.
pub record Holds (layers overrides slots : ℕ) (lent : Buffers) : Type 0 where
  pub for_sizes : layers ≤ length lent.sizes
  pub for_chunks : overrides ≤ length lent.size_chunks
  pub for_layers : overrides ≤ length lent.size_layers
  pub for_bytes : overrides ≤ length lent.size_bytes
  pub for_forecast : slots ≤ length lent.forecast

pub holds : (layers overrides slots : ℕ) (lent : Buffers) → 0 ≡ room_by layers overrides slots lent → Holds layers overrides slots lent
holds n k m lent none =
    let a = length lent.sizes in let b = length lent.size_chunks in let c = length lent.size_layers in let d = length lent.size_bytes in let e = length lent.forecast in
    let rest : Bool = leb k d && leb m e in
    let t = and_T (leb n a) (leb k b && (leb k c && rest)) ((unless_iff 11 (leb n a && (leb k b && (leb k c && rest))) (omega arith)).0 (sym none)) in
    let u = and_T (leb k b) (leb k c && rest) t.1 in
    let v = and_T (leb k c) rest u.1 in
    let w = and_T (leb k d) (leb m e) v.1 in
    record { for_sizes = (leb_iff n a).0 t.0; for_chunks = (leb_iff k b).0 u.0; for_layers = (leb_iff k c).0 v.0; for_bytes = (leb_iff k d).0 w.0; for_forecast = (leb_iff m e).0 w.1 }

module _ (q : Bool) (s : List ℕ) (lent : Buffers) where
  refused : (e : Refusal) → job_read_refusal q s lent ≡ number_of e → JobReadPromise q s lent (Err (number_of e)) lent
  unfolding read_answer lent_read
  refused e is =
      let some = ne_eqb (number_of e) 0 (λ y. omega (arith, number_above_0 e)) in
      record { answer = rw (is, some); after = rw (is, some) }

  -- Input refusals come first.
  by_file : (e : Refusal) → refusal_of q s ≡ number_of e → JobReadPromise q s lent (Err (number_of e)) lent
  by_file e is =
      let some : refusal_of q s ≡ 0 → ⊥ = λ y. omega (arith, number_above_0 e) in
      refused e (or_else_some (refusal_of q s) (room_refusal (job_of_file q s) lent) some ∙ is)

  pub read_long : (e : Refusal) → number_of e ≡ unless 9 (leb (length s) 65536) → JobReadPromise q s lent (Err (number_of e)) lent
  unfolding file_refusal
  read_long e is =
      let long = unless 9 (leb (length s) 65536) in
      let some : long ≡ 0 → ⊥ = λ y. omega (arith, number_above_0 e) in
      by_file e (or_else_some long (records_refusal (format q) s) some ∙ sym is)

  module _ (short : 0 ≡ unless 9 (leb (length s) 65536)) where
    by_records : refusal_of q s ≡ records_refusal (format q) s
    unfolding file_refusal
    by_records = or_else_none (unless 9 (leb (length s) 65536)) (records_refusal (format q) s) (sym short)

    pub read_broken : (e : Refusal) → Refuses q s e → JobReadPromise q s lent (Err (number_of e)) lent
    read_broken e is = by_file e (by_records ∙ is)

    -- A whole job, with sizes and slots in the tables and the SZs in the file.
    module _ (j : Progress) (z f : List ℕ) (complete : Complete q s j z f) where
      pub layers_inside : j.layers ≤ length z
      layers_inside = omega (arith, complete.room.sized.layers_in, complete.room.sized.sizes_room)

      pub slots_inside : j.slots ≤ length f
      slots_inside = omega (arith, complete.room.slots_in, complete.room.slots_room)

      -- By how much there is, 11 or none.
      room_is : job_read_refusal q s lent ≡ room_by j.layers j.overrides j.slots lent
      room_is =
          or_else_none (refusal_of q s) (room_refusal (job_of_file q s) lent) (by_records ∙ complete.none)
          ∙ ap (λ (k : Job). room_refusal k lent) (sym complete.job_is)
          ∙ rw (length-take-le j.layers z layers_inside, how_many s (j.ends - 9 * j.overrides) j.overrides, length-take-le j.slots f slots_inside)

      pub read_short : (e : Refusal) → number_of e ≡ room_by j.layers j.overrides j.slots lent → JobReadPromise q s lent (Err (number_of e)) lent
      read_short e is = refused e (room_is ∙ sym is)

      -- What was copied of the tables, and of the SZs, to the front of the buffers.
      pub read_whole :
          0 ≡ room_by j.layers j.overrides j.slots lent → (a b c d e : List ℕ) →
          a ≡ take j.layers z → b ≡ over (override_chunks (counted s j)) lent.size_chunks → c ≡ over (override_layers (counted s j)) lent.size_layers →
          d ≡ over (override_bytes (counted s j)) lent.size_bytes → e ≡ take j.slots f →
          JobReadPromise q s lent (Ok (record { programme = j.programme; layers = j.layers; overrides = j.overrides; slots = j.slots })) (buffers (a ++ drop j.layers lent.sizes) b c d (e ++ drop j.slots lent.forecast))
      unfolding read_answer lent_read
      read_whole none a b c d e ea eb ec ed ee =
          let zero = room_is ∙ sym none in
          let layers = length-take-le j.layers z layers_inside in
          let slots = length-take-le j.slots f slots_inside in
          let r : ReadJob = record { programme = j.programme; layers = j.layers; overrides = j.overrides; slots = j.slots } in
          let answer : r ≡ job_answer (job_from s j z f) = rw (layers, how_many s (j.ends - 9 * j.overrides) j.overrides, slots) in
          let left : buffers (a ++ drop j.layers lent.sizes) b c d (e ++ drop j.slots lent.forecast) ≡ lent_by 0 (job_from s j z f) lent = rw (ea, eb, ec, ed, ee, layers, slots) in
          record { answer = rw zero (ap (λ (x : ReadJob). Ok x) (answer ∙ ap job_answer complete.job_is)); after = rw zero (left ∙ ap (λ (k : Job). lent_by 0 k lent) complete.job_is) }
