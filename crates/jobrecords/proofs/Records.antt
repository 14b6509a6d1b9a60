-- Lemmas. The state of the loop that reads a job file, a record more. Assumes nothing.
use Prim.Native.Nat.{ℕ, ◌+◌, ◌≤◌, ◌<◌}
use mathlib.Core.Path.{◌≡◌, refl, sym, ap, subst, ◌∙◌}
use mathlib.Core.Bool.{true, false}
use mathlib.Core.List.{List, [], ◌∷◌, ◌++◌, append-nil}
use native.Mathlib.Omega.{arith}
use native.Mathlib.Numerals.{add-one}
use lib.ListN.{length, take, set, replicate, length-set, length-replicate}
use lib.Seq.{paste, take-paste, length-paste, take_all, take-suc-set}
use Rattle.job.specs.declared.Programme.{Programme}
use Rattle.jobrecords.specs.declared.Record.{Record}
use Rattle.jobrecords.specs.declared.Record.TheVariants.{Pg, Ly, Sz, Bw, En}
use Rattle.jobrecords.specs.declared.Progress.{Progress}
use Rattle.jobrecords.specs.Says.{has_programme, sizes_in, forecast_in}
use Rattle.jobrecords.specs.Records.{is_end}
use Rattle.jobrecords.specs.Refusal.{place}
use Rattle.jobrecords.specs.lemmas.Reading.{run_bytes, with_programme, with_layers, with_overrides, with_runs, Fine, Sized, Room, StandsFor, TakeRecordPost}
use Rattle.jobrecords.specs.lemmas.Clean.{first_programme, programme_few, layer_in, run_in}
use Rattle.jobrecords.specs.lemmas.Sequence.{previous_snoc}
use Rattle.jobrecords.specs.lemmas.Joined.{has_append, has_same, programme_same, programme_new, sizes_append, forecast_append}

-- Of the table of sizes only programme and layers matter.
same_sized : (j j' : Progress) (z : List ℕ) → j'.programme ≡ j.programme → j'.layers ≡ j.layers → Sized j z → Sized j' z
same_sized j j' z p n s = record { chunks_in = rw p s.chunks_in; layers_in = rw n s.layers_in; sizes_room = s.sizes_room }

module _ (j : Progress) (z f : List ℕ) (rs : List Record) (i : StandsFor j z f rs) where
  stands_programme : (p : Programme) → Fine j (Pg p) → StandsFor (with_programme j p) z f (rs ++ (Pg p ∷ []))
  stands_programme p e =
      let new : has_programme rs ≡ false = sym i.seen_is ∙ first_programme j.seen p e.first in
      let sized = i.room.sized in
      record {
        room = record { sized = record { chunks_in = programme_few p e.ranges; layers_in = sized.layers_in; sizes_room = sized.sizes_room }; slots_in = i.room.slots_in; slots_room = i.room.slots_room };
        place_is = sym (ap place (previous_snoc rs (Pg p)));
        bytes_is = sym (ap run_bytes (previous_snoc rs (Pg p)));
        seen_is = sym (has_append rs (Pg p ∷ []) ∙ rw new);
        programme_is = sym (programme_new rs (Pg p ∷ []) new);
        sizes_are = i.sizes_are ∙ sym (sizes_append rs (Pg p ∷ []) ∙ append-nil (sizes_in rs));
        forecast_is = i.forecast_is ∙ sym (forecast_append rs (Pg p ∷ []) ∙ append-nil (forecast_in rs));
      }

  stands_layer : (size : ℕ) → Fine j (Ly size) → StandsFor (with_layers j (j.layers + 1)) (set z j.layers size) f (rs ++ (Ly size ∷ []))
  stands_layer size e =
      let few = (layer_in j.layers size e.ranges).0 in
      let sized = i.room.sized in
      let inside : j.layers < length z = omega (arith, sized.sizes_room) in
      record {
        room = record { sized = record { chunks_in = sized.chunks_in; layers_in = omega arith; sizes_room = length-set z j.layers size ∙ sized.sizes_room }; slots_in = i.room.slots_in; slots_room = i.room.slots_room };
        place_is = sym (ap place (previous_snoc rs (Ly size)));
        bytes_is = sym (ap run_bytes (previous_snoc rs (Ly size)));
        seen_is = i.seen_is ∙ sym (has_same rs (Ly size ∷ []) refl);
        programme_is = i.programme_is ∙ sym (programme_same rs (Ly size ∷ []) refl);
        sizes_are = rw (add-one, take-suc-set z j.layers size inside, i.sizes_are) (sym (sizes_append rs (Ly size ∷ [])));
        forecast_is = i.forecast_is ∙ sym (forecast_append rs (Ly size ∷ []) ∙ append-nil (forecast_in rs));
      }

  stands_run : (count bytes : ℕ) → Fine j (Bw count bytes) → StandsFor (with_runs j (j.slots + count) bytes) z (paste f j.slots (replicate count bytes) count) (rs ++ (Bw count bytes ∷ []))
  stands_run count bytes e =
      let few = (run_in j.slots count bytes e.ranges).0 in
      let long : count ≤ length (replicate count bytes) = rw length-replicate (omega arith) in
      let inside : j.slots + count ≤ length f = omega (arith, i.room.slots_room) in
      let spread : take (j.slots + count) (paste f j.slots (replicate count bytes) count) ≡ take j.slots f ++ replicate count bytes = take-paste f j.slots (replicate count bytes) count (omega arith) long ∙ ap (λ (l : List ℕ). take j.slots f ++ l) (take_all count (replicate count bytes) (rw length-replicate (omega arith))) in
      record {
        room = record { sized = same_sized j (with_runs j (j.slots + count) bytes) z refl refl i.room.sized; slots_in = few; slots_room = length-paste f j.slots (replicate count bytes) count inside long ∙ i.room.slots_room };
        place_is = sym (ap place (previous_snoc rs (Bw count bytes)));
        bytes_is = sym (ap run_bytes (previous_snoc rs (Bw count bytes)));
        seen_is = i.seen_is ∙ sym (has_same rs (Bw count bytes ∷ []) refl);
        programme_is = i.programme_is ∙ sym (programme_same rs (Bw count bytes ∷ []) refl);
        sizes_are = i.sizes_are ∙ sym (sizes_append rs (Bw count bytes ∷ []) ∙ append-nil (sizes_in rs));
        forecast_is = rw (spread, i.forecast_is) (sym (forecast_append rs (Bw count bytes ∷ []) ∙ ap (λ (l : List ℕ). forecast_in rs ++ l) (append-nil (replicate count bytes))));
      }

  stands_override : (chunk layer bytes ends : ℕ) → StandsFor (with_overrides j 1 ends) z f (rs ++ (Sz chunk layer bytes ∷ []))
  stands_override chunk layer bytes ends =
      let r : Record = Sz chunk layer bytes in
      record {
        room = record { sized = same_sized j (with_overrides j 1 ends) z refl refl i.room.sized; slots_in = i.room.slots_in; slots_room = i.room.slots_room };
        place_is = sym (ap place (previous_snoc rs r));
        bytes_is = sym (ap run_bytes (previous_snoc rs r));
        seen_is = i.seen_is ∙ sym (has_same rs (r ∷ []) refl);
        programme_is = i.programme_is ∙ sym (programme_same rs (r ∷ []) refl);
        sizes_are = i.sizes_are ∙ sym (sizes_append rs (r ∷ []) ∙ append-nil (sizes_in rs));
        forecast_is = i.forecast_is ∙ sym (forecast_append rs (r ∷ []) ∙ append-nil (forecast_in rs));
      }

-- ---- a record goes into the state and the tables

module _ (j : Progress) (z f : List ℕ) (r : Record) (next : ℕ) (fine : Fine j r) where
  now_fine : (k : Record) → r ≡ k → Fine j k
  now_fine k e = subst (Fine j) e fine

  pub takes_programme : (p : Programme) (k : Progress) → r ≡ Pg p → k ≡ with_programme j p → TakeRecordPost j z f r next k z f
  takes_programme p k e w = record { stands = λ rs i. rw (e, w) (stands_programme j z f rs i p (now_fine (Pg p) e)); overrides_are = rw (e, w); ends_are = rw (e, w) }

  pub takes_layer : (size : ℕ) (k : Progress) → r ≡ Ly size → k ≡ with_layers j (j.layers + 1) → TakeRecordPost j z f r next k (set z j.layers size) f
  takes_layer size k e w = record { stands = λ rs i. rw (e, w) (stands_layer j z f rs i size (now_fine (Ly size) e)); overrides_are = rw (e, w); ends_are = rw (e, w) }

  pub takes_override : (chunk layer bytes : ℕ) (k : Progress) → r ≡ Sz chunk layer bytes → k ≡ with_overrides j 1 next → TakeRecordPost j z f r next k z f
  takes_override chunk layer bytes k e w = record { stands = λ rs i. rw (e, w) (stands_override j z f rs i chunk layer bytes next); overrides_are = rw (e, w); ends_are = rw (e, w) }

  pub takes_run : (count bytes : ℕ) (k : Progress) (g : List ℕ) → r ≡ Bw count bytes → k ≡ with_runs j (j.slots + count) bytes → g ≡ paste f j.slots (replicate count bytes) count → TakeRecordPost j z f r next k z g
  takes_run count bytes k g e v w = record { stands = λ rs i. rw (e, v, w) (stands_run j z f rs i count bytes (now_fine (Bw count bytes) e)); overrides_are = rw (e, v); ends_are = rw (e, v) }

  pub takes_no_end : (k : Progress) (z' f' : List ℕ) → r ≡ En → TakeRecordPost j z f r next k z' f'
  takes_no_end k z' f' e = let b : true ≡ false = sym (ap is_end e) ∙ fine.no_end in absurd (let z : ◌≡◌ {A = ℕ} 0 1 = cc in omega arith)

  -- Where the record's values go lies inside the tables.
  pub layer_inside : (size : ℕ) → Room j z f → r ≡ Ly size → j.layers < length z
  layer_inside size room e = omega (arith, (layer_in j.layers size (now_fine (Ly size) e).ranges).0, room.sized.sizes_room)

  pub run_inside : (count bytes : ℕ) → Room j z f → r ≡ Bw count bytes → j.slots + count ≤ length f
  run_inside count bytes room e = omega (arith, (run_in j.slots count bytes (now_fine (Bw count bytes) e).ranges).0, room.slots_room)
