-- Theorems. The records of a plan file without a count: a record and then those of the rest, or EN,
-- or the place where no record stands.
use Rattle.std.specs.Prelude.{ℕ, ◌≤◌, ◌≡◌, List, leb, get_or, length}
use Rattle.std.proofs.Common.{subst, arith, leb→le}
use Rattle.theory_basics.specs.lemmas.Tests.{by_cond}
use Rattle.records.specs.Fields.{h_at, marked, w_at}
use Rattle.records.specs.File.{Front, got, none, split, split_by}
use Rattle.records.specs.Theorems.{Takes, split_is}
use Rattle.planfile.specs.declared.Record.{Record}
use Rattle.planfile.specs.declared.Record.TheVariants.{Kp, Ft, En}
use Rattle.planfile.specs.PlanFile.{format}
use Rattle.planfile.specs.Records.{en, front, ft, kp, whole}

-- A record in front takes at least a byte, and no more than there are.
abbrev TakesIn : List ℕ → Front Record → Type 0
TakesIn s (got r n) = (1 ≤ n) × (n ≤ length s)
TakesIn s (none n) = Unit {0}

whole_takes : (s : List ℕ) (n : ℕ) (r : Record) → 1 ≤ n → TakesIn s (whole s n r)
whole_takes s n r h = by_cond (TakesIn s) (leb n (length s)) (λ t. (h, leb→le n (length s) t)) (λ t. tt)

front_takes : (s : List ℕ) → TakesIn s (front s)
unfolding front
front_takes s =
    by_cond (TakesIn s) (leb 2 (length s))
    (λ t.
    by_cond (TakesIn s) (marked kp s) (λ u. whole_takes s 5 (Kp (h_at s 2) (get_or s 4 0)) (omega arith))
    (λ u.
    by_cond (TakesIn s) (marked ft s) (λ v. whole_takes s 11 (Ft (h_at s 2) (h_at s 4) (get_or s 6 0) (w_at s 7)) (omega arith))
    (λ v. by_cond (TakesIn s) (marked en s) (λ w. whole_takes s 2 En (omega arith)) (λ w. tt))))
    (λ t. tt)

pub plan_takes : (count : ℕ) → Takes (format count)
plan_takes count s r n e = subst (TakesIn s) e (front_takes s)

pub plan_split : (count : ℕ) (s : List ℕ) → split (format count) s ≡ split_by (format count) (split (format count)) s (front s)
plan_split count s = split_is (format count) (plan_takes count) s
