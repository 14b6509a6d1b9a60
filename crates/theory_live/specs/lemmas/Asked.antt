-- Lemmas. What holds of an asked chunk, whichever are passed over: it is open, and rule 6 has room
-- for it. Assumes nothing.
use Rattle.std.specs.Prelude.{ℕ, suc, ◌≤◌, ◌<◌, Bool, not, ◌&&◌, ◌||◌, List, ◌++◌, ◌⊎◌, T, leb, ltb}
use Rattle.std.proofs.Common.{inl, inr, ⊎_elim, arith, T_not, leb→le, nltb→le}
use Rattle.theory_basics.specs.lemmas.Tests.{and_T, T_and, T_or_iff, test}
use Rattle.job.specs.Job.{Job, chunks, due, forecast, held_most, last_slot}
use Rattle.fetch.specs.Rows.{Row, has_row, held_count}
use Rattle.theory_replan.specs.Statement.{Acceptable}
use Rattle.theory_live.specs.Statement.{asked_beside, begun_after, fresh, has_room, in_line, is_open}
use Rattle.theory_live.specs.lemmas.Firsts.{room}
use Rattle.theory_live.specs.lemmas.Safe.{before_next, in_turn_lem, made_of, no_more_lem, rule_1, rule_3, rule_4, rule_5, rule_6}

module _ (j : Job) (p : ℕ) (rows : List Row) (over : ℕ → Bool) where
  pub asked_open : (i : ℕ) → T (asked_beside j p rows over i) → T (is_open j p rows i)
  asked_open i t =
      (and_T (is_open j p rows i) (not (over i)) (and_T (in_line j p rows over i) (not (fresh j p rows over i) || has_room j p rows over i) t).0).0

  pub asked_due : (i : ℕ) → T (asked_beside j p rows over i) → p ≤ due j i
  asked_due i t = leb→le p (due j i) (and_T (leb p (due j i)) (has_row rows i || not (begun_after rows i)) (asked_open i t)).0

  pub asked_in_line : (i : ℕ) → T (asked_beside j p rows over i) → T (has_row rows i) ⊎ T (not (begun_after rows i))
  asked_in_line i t =
      (T_or_iff (has_row rows i) (not (begun_after rows i))).0 (and_T (leb p (due j i)) (has_row rows i || not (begun_after rows i)) (asked_open i t)).1

  -- Begun, due in p, or of those with room.
  pub asked_room :
      (i : ℕ) → T (asked_beside j p rows over i) →
      T (has_row rows i) ⊎ ((due j i ≤ p) ⊎ T (fresh j p rows over i && has_room j p rows over i))
  asked_room i t =
      let u = and_T (in_line j p rows over i) (not (fresh j p rows over i) || has_room j p rows over i) t in
      ⊎_elim
      (λ b. inl b)
      (λ b.
      inr (⊎_elim
      (λ d.
      let f = T_and (in_line j p rows over i && not (has_row rows i)) (ltb p (due j i)) (T_and (in_line j p rows over i) (not (has_row rows i)) u.0 b) d in
      inr (T_and (fresh j p rows over i) (has_room j p rows over i) f
      (⊎_elim (λ n. absurd (T_not (fresh j p rows over i) n f)) (λ h. h) ((T_or_iff (not (fresh j p rows over i)) (has_room j p rows over i)).0 u.1))))
      (λ d. inl (nltb→le p (due j i) d))
      (test (ltb p (due j i)))))
      (test (has_row rows i))

  -- Safe whatever comes, and whichever chunks are passed over.
  pub safe_beside :
      (x : ℕ) → Acceptable j p rows → p < last_slot j → x ≤ forecast j p →
      Acceptable j (suc p) (rows ++ made_of j p rows (asked_beside j p rows over) x)
  safe_beside x ok h l =
      let a = asked_beside j p rows over in
      record {
        p_low = omega arith;
        p_high = h;
        before = before_next j p rows a x ok;
        in_range_lem = rule_1 j p rows a x ok;
        no_more_lem = no_more_lem j p rows a x ok;
        lower = rule_3 j p rows a x ok;
        within = rule_4 j p rows a x ok l;
        on_time_lem = rule_5 j p rows a x ok asked_due;
        few_held =
            rule_6 j p rows a x ok (λ i. fresh j p rows over i && has_room j p rows over i)
            (room (fresh j p rows over) (held_count j rows p) (held_most j) (chunks j) (ok.few_held p ok.p_low ok.p_high)) asked_room;
        in_turn_lem = in_turn_lem j p rows a x ok asked_in_line;
      }
