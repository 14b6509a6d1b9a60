-- Theorems. The asks of small films, by computation: a link in time, one a little too slow, an
-- outage, no room beyond the due slot, uneven film, a chunk that was overtaken, and a begun one
-- that was passed over and comes back.
use Rattle.std.specs.Prelude.{ℕ, suc, ◌≡◌, refl, Bool, cond, true, false, List, [], ◌∷◌, eqb}
use Rattle.theory_basics.specs.Lists.{up_to}
use Rattle.job.specs.Job.{Job, Override, chunks, job_of, size_in}
use Rattle.fetch.specs.Rows.{Row}
use Rattle.theory_plan.specs.Own.{Piece}
use Rattle.theory_live.specs.Statement.{act, asks, passed_over, taken_of}

-- C 4, L 2, s 2, layers of 6 and 3 bytes; chunk i is due in slot 2 i, and H is limit / 2. The asks
-- read no forecast.
abbrev film : ℕ → List Override → Job
film limit uneven = job_of (record { chunks = 4; span = 2; delay = 2; limit = limit }) (6 ∷ 3 ∷ []) uneven []

abbrev row : ℕ → ℕ → ℕ → ℕ → Row
row t i n b = record { slot = t; chunk = i; layer = n; bytes = b }

abbrev part : ℕ → ℕ → ℕ → Piece
part i n b = record { chunk = i; layer = n; bytes = b }

-- Of the chunks 1 to 4, which are passed over.
abbrev over : Job → ℕ → List Row → ℕ → List Bool
over j p rows r = up_to (λ k. passed_over j p rows r (suc k)) (chunks j)

-- ---- 1. A link in time: at 3 bytes a slot chunk 1 gets its 6 by slot 2. Both bases that the
-- buffer holds, then both upper layers.

in_time_over : over (film 4 []) 1 [] 3 ≡ false ∷ false ∷ false ∷ false ∷ []
unfolding size_in passed_over
in_time_over = refl

in_time_lem : asks (film 4 []) 1 [] 3 ≡ part 1 0 6 ∷ part 2 0 6 ∷ part 1 1 3 ∷ part 2 1 3 ∷ []
unfolding size_in passed_over
in_time_lem = refl

-- 8 bytes come.
in_time_taken : taken_of 1 8 (asks (film 4 []) 1 [] 3) ≡ row 1 1 0 6 ∷ row 1 2 0 2 ∷ []
unfolding size_in passed_over
in_time_taken = refl

-- ---- 2. A link a little too slow: at 2 bytes a slot chunk 1 gets 4 of its 6 by slot 2. Chunk 2
-- gets 8 by slot 4, and would not get its 6 behind the 6 of chunk 1. Chunk 1 is passed over.

too_slow_over : over (film 4 []) 1 [] 2 ≡ true ∷ false ∷ false ∷ false ∷ []
unfolding size_in passed_over
too_slow_over = refl

too_slow : asks (film 4 []) 1 [] 2 ≡ part 2 0 6 ∷ part 3 0 6 ∷ part 2 1 3 ∷ part 3 1 3 ∷ []
unfolding size_in passed_over
too_slow = refl

-- With 4 bytes of chunk 1 fetched in slot 1 it is in time in slot 2, and since it is not held at
-- the end of slot 2, two more have room.
too_slow_begun :
    asks (film 4 []) 2 (row 1 1 0 4 ∷ []) 2
    ≡ part 1 0 2 ∷ part 2 0 6 ∷ part 3 0 6 ∷ part 1 1 3 ∷ part 2 1 3 ∷ part 3 1 3 ∷ []
unfolding size_in passed_over
too_slow_begun = refl

-- The act at this rate, to the end of slot 6: chunks 2 and 3 are shown.
too_slow_act :
    act (film 4 []) (λ p. 2) (λ p. 2) 6
    ≡ row 1 2 0 2 ∷ row 2 2 0 2 ∷ row 3 2 0 2 ∷ row 4 3 0 2 ∷ row 5 3 0 2 ∷ row 6 3 0 2 ∷ []
unfolding size_in passed_over
too_slow_act = refl

-- A chunk before the first that lacks base bytes is not passed over: chunk 1 is whole but for its
-- upper layer, chunks 2 and 3 are late at 1 byte a slot, chunk 4 is in time.
first_stays : asks (film 4 []) 2 (row 1 1 0 6 ∷ []) 1 ≡ part 4 0 6 ∷ part 1 1 3 ∷ part 4 1 3 ∷ []
unfolding size_in passed_over
first_stays = refl

-- ---- 3. An outage: at rate 0 no later chunk is in time either, and none is passed over.

outage_over : over (film 4 []) 1 [] 0 ≡ false ∷ false ∷ false ∷ false ∷ []
unfolding size_in passed_over
outage_over = refl

outage : asks (film 4 []) 1 [] 0 ≡ part 1 0 6 ∷ part 2 0 6 ∷ part 1 1 3 ∷ part 2 1 3 ∷ []
unfolding size_in passed_over
outage = refl

-- ---- 4. H 0: a chunk may be fetched in its due slot alone. In slot 1 nothing is asked, in slot 2
-- chunk 1.

none_held_1 : asks (film 1 []) 1 [] 3 ≡ []
unfolding size_in passed_over
none_held_1 = refl

none_held_2 : asks (film 1 []) 2 [] 3 ≡ part 1 0 6 ∷ part 1 1 3 ∷ []
unfolding size_in passed_over
none_held_2 = refl

-- In slot 3 chunk 1 is past, and chunk 2 not yet due.
none_held_3 : asks (film 1 []) 3 [] 3 ≡ []
unfolding size_in passed_over
none_held_3 = refl

-- ---- 5. Uneven film: bases of 6, 9, 2, 6, limit 8. At 2 bytes a slot chunks 1 and 2 are late by 2
-- and 1, and chunk 3 is in time with 2 of 12, and behind chunk 1 too: none is passed over.

abbrev uneven : ℕ → List Override
uneven b = record { chunk = 2; layer = 0; bytes = 9 } ∷ record { chunk = 3; layer = 0; bytes = b } ∷ []

small_third : over (film 8 (uneven 2)) 1 [] 2 ≡ false ∷ false ∷ false ∷ false ∷ []
unfolding size_in passed_over
small_third = refl

-- With 6 in chunk 3 it is in time behind chunk 1 to the byte.
just_behind : over (film 8 (uneven 6)) 1 [] 2 ≡ false ∷ false ∷ false ∷ false ∷ []
unfolding size_in passed_over
just_behind = refl

-- With 7 in chunk 3 it is not in time behind chunk 1, and both before it are passed over.
large_third : over (film 8 (uneven 7)) 1 [] 2 ≡ true ∷ true ∷ false ∷ false ∷ []
unfolding size_in passed_over
large_third = refl

large_third_asks : asks (film 4 (uneven 7)) 1 [] 2 ≡ part 3 0 7 ∷ part 4 0 6 ∷ part 3 1 3 ∷ part 4 1 3 ∷ []
unfolding size_in passed_over
large_third_asks = refl

-- ---- 6. An overtaken chunk: with rows of chunk 2 alone, chunk 1 is due and not open, and is not
-- asked; chunk 3 has room beside chunk 2.

overtaken : asks (film 4 []) 2 (row 1 2 0 2 ∷ []) 6 ≡ part 2 0 4 ∷ part 3 0 6 ∷ part 2 1 3 ∷ part 3 1 3 ∷ []
unfolding size_in passed_over
overtaken = refl

-- Not overtaken, at the same rate: chunk 1 is in time and asked.
not_overtaken : asks (film 2 []) 2 [] 6 ≡ part 1 0 6 ∷ part 2 0 6 ∷ part 1 1 3 ∷ part 2 1 3 ∷ []
unfolding size_in passed_over
not_overtaken = refl

-- ---- Between the first and the later one: bases 30, 9, 2. Chunk 3 is in time, and not behind the
-- 30 of chunk 1, so chunks 1 and 2 are passed over. Behind the 9 of chunk 2 it would be in time: 9
-- + 2 ≤ 12. Chunk 2 itself is not.

abbrev between : Job
between =
    job_of (record { chunks = 3; span = 2; delay = 2; limit = 6 }) (30 ∷ [])
    (record { chunk = 2; layer = 0; bytes = 9 } ∷ record { chunk = 3; layer = 0; bytes = 2 } ∷ []) []

between_over : over between 1 [] 2 ≡ true ∷ true ∷ false ∷ []
unfolding size_in passed_over
between_over = refl

-- ---- 7. A begun chunk passed over that comes back: C 4, L 2, s 4, limit 8, layers of 5 and 3
-- bytes; chunk 1 is due in slot 4. Slot 1 brings 1 byte of it at rate 2; slot 2, at rate 1, passes
-- it over and brings the base of chunk 2.

abbrev begun_late : Job
begun_late = job_of (record { chunks = 4; span = 2; delay = 4; limit = 8 }) (5 ∷ 3 ∷ []) [] []

abbrev two_slots : List Row
two_slots = row 1 1 0 1 ∷ row 2 2 0 5 ∷ []

begun_over : over begun_late 2 (row 1 1 0 1 ∷ []) 1 ≡ true ∷ false ∷ false ∷ false ∷ []
unfolding size_in passed_over
begun_over = refl

begun_act : act begun_late (λ p. cond (eqb p 1) 2 1) (λ p. cond (eqb p 1) 1 5) 2 ≡ two_slots
unfolding size_in passed_over
begun_act = refl

-- In slot 3 at rate 2 it is in time to the byte, and is asked, though chunk 2 after it is begun.
comes_back :
    asks begun_late 3 two_slots 2
    ≡ part 1 0 4 ∷ part 3 0 5 ∷ part 4 0 5 ∷ part 1 1 3 ∷ part 2 1 3 ∷ part 3 1 3 ∷ part 4 1 3 ∷ []
unfolding size_in passed_over
comes_back = refl

-- ---- A whole base between the first and the later one is not passed over: in slot 3 at rate 1
-- chunk 1 is passed over for chunk 3, and the upper layer of chunk 2, which lacks no base bytes, is
-- asked.

whole_over : over begun_late 3 two_slots 1 ≡ true ∷ false ∷ false ∷ false ∷ []
unfolding size_in passed_over
whole_over = refl

whole_asks :
    asks begun_late 3 two_slots 1 ≡ part 3 0 5 ∷ part 4 0 5 ∷ part 2 1 3 ∷ part 3 1 3 ∷ part 4 1 3 ∷ []
unfolding size_in passed_over
whole_asks = refl
