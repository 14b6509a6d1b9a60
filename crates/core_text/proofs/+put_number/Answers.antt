-- `core_text::put_number` meets its contract: a digit alone, or the digits of a tenth and one behind them. Assumes nothing.
use Rattle.std.proofs.Common.{◌≡◌, ◌+◌, ◌≤◌, ◌/◌, ◌%◌, [], ◌∷◌, ◌++◌, length, ap, arith}
use Rattle.theory_basics.specs.Text.{digits}
use Rattle.theory_basics.specs.lemmas.Digits.{digits_one, digits_more, digits_length}
use Rattle.core_text.specs.lemmas.Places.{put_byte, put_then, put_room}
use Rattle.core_text.proofs.+put_number.Goals as goal

pub bounds-out-at : goal.bounds-out-at
bounds-out-at t c = omega (arith, c.requires, ap length (digits_one c.args.n (omega arith)))

pub returns-then-n-lt10 : goal.returns-then-n-lt10
returns-then-n-lt10 t c =
    let a = c.args in
    let e : digits a.n ≡ (48 + a.n) ∷ [] = digits_one a.n (omega arith) in
    rw e (put_byte a.out.now a.at (48 + a.n) (omega (arith, c.requires, ap length e)))

pub put_number-next-requires : goal.put_number-next-requires
put_number-next-requires t c =
    (omega (arith, c.decreases), omega (arith, c.requires, digits_length c.args.n (omega arith)))

pub bounds-out-next : goal.bounds-out-next
bounds-out-next t c =
    omega (arith, c.requires, c.put_number-next.ensures.place, c.put_number-next.auto.out, digits_length c.args.n (omega arith))

pub overflow_add-result-else-n-lt10 : goal.overflow_add-result-else-n-lt10
overflow_add-result-else-n-lt10 t c =
    omega (arith, c.requires, c.put_number-next.ensures.place, c.well_formed, digits_length c.args.n (omega arith))

pub returns-else-n-lt10 : goal.returns-else-n-lt10
returns-else-n-lt10 t c =
    let a = c.args in
    let o = c.put_number-next in
    let v = 48 + a.n % 10 in
    let e : digits a.n ≡ digits (a.n / 10) ++ (v ∷ []) = digits_more a.n (omega arith) in
    let h : a.at + length (digits (a.n / 10) ++ (v ∷ [])) ≤ length a.out.now = omega (arith, c.requires, ap length e) in
    let r : o.result + 1 ≤ length o.new.out = put_room (digits (a.n / 10)) (v ∷ []) h o.ensures in
    rw e (put_then (digits (a.n / 10)) (v ∷ []) h o.ensures (put_byte o.new.out o.result v (omega arith)))
