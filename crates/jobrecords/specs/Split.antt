-- Theorems. The records of a job file without a count: a record and then those of the rest, or EN,
-- or the place where no record stands.
use Rattle.std.specs.Prelude.{ℕ, ◌≤◌, ◌≡◌, Bool, ◌&&◌, List, leb, length}
use Rattle.std.proofs.Common.{subst, arith, leb→le}
use Rattle.theory_basics.specs.lemmas.Tests.{by_cond}
use Rattle.records.specs.Fields.{marked}
use Rattle.records.specs.File.{Front, got, none, split, split_by}
use Rattle.records.specs.Theorems.{Takes, split_is}
use Rattle.jobrecords.specs.declared.Record.{Record}
use Rattle.jobrecords.specs.declared.Record.TheVariants.{En}
use Rattle.jobrecords.specs.Records.{BW, EN, LY, PG, SZ, front, layer_at, override_at, programme_at, run_at, whole}
use Rattle.jobrecords.specs.Refusal.{format}

-- A record in front takes at least a byte, and no more than there are.
abbrev TakesIn : List ℕ → Front Record → Type 0
TakesIn s (got r n) = (1 ≤ n) × (n ≤ length s)
TakesIn s (none n) = Unit {0}

whole_takes : (s : List ℕ) (n : ℕ) (r : Record) → 1 ≤ n → TakesIn s (whole s n r)
whole_takes s n r h = by_cond (TakesIn s) (leb n (length s)) (λ t. (h, leb→le n (length s) t)) (λ t. tt)

front_takes : (q : Bool) (s : List ℕ) → TakesIn s (front q s)
unfolding front
front_takes q s =
    by_cond (TakesIn s) (leb 2 (length s))
    (λ t.
    by_cond (TakesIn s) (marked PG s) (λ u. whole_takes s 10 (programme_at s) (omega arith))
    (λ u.
    by_cond (TakesIn s) (marked LY s) (λ v. whole_takes s 6 (layer_at s) (omega arith))
    (λ v.
    by_cond (TakesIn s) (marked BW s) (λ w. whole_takes s 8 (run_at s) (omega arith))
    (λ w.
    by_cond (TakesIn s) (marked EN s) (λ x. whole_takes s 2 En (omega arith))
    (λ x. by_cond (TakesIn s) (q && marked SZ s) (λ y. whole_takes s 9 (override_at s) (omega arith)) (λ y. tt))))))
    (λ t. tt)

pub job_takes : (q : Bool) → Takes (format q)
job_takes q s r n e = subst (TakesIn s) e (front_takes q s)

pub job_split : (q : Bool) (s : List ℕ) → split (format q) s ≡ split_by (format q) (split (format q)) s (front q s)
job_split q s = split_is (format q) (job_takes q) s
