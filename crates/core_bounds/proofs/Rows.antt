-- What has been written of a row of needs, over plain lists: an invariant for each loop that writes
-- one.
use Prim.Native.Nat.{ℕ, suc, ◌+◌, ◌*◌, ◌-◌, ◌≤◌, ◌<◌, max, min}
use mathlib.Core.Path.{◌≡◌}
use mathlib.Core.Bool.{cond}
use mathlib.Core.List.{List}
use lib.ListN.{length, get_or}
use lib.Dec.{leb}

-- A chunk in front: the places above c are written, up to count.
pub record InFront (base left count c : ℕ) (old new : List ℕ) : Type 0 where
  pub low : (k : ℕ) → k ≤ c → get_or new k 0 ≡ get_or old k 0
  pub high : (k : ℕ) → c ≤ k → k < count → get_or new (suc k) 0 ≡ min (get_or old (suc k) 0) (base + max left (get_or old k 0))
  pub within : c ≤ count

-- A row over the next row and the row H places on: the places up to c are written.
pub record Filling (i count held base left late none c : ℕ) (old new : List ℕ) : Type 0 where
  pub first : get_or new (i * 501) 0 ≡ 0
  pub others :
      (k : ℕ) → k < c →
      get_or new (i * 501 + suc k) 0
      ≡ min (get_or old (suc i * 501 + suc k) 0)
      (cond (leb (get_or old (min (i + held) count * 501 + (suc k - held)) 0) late) (base + max left (get_or old (suc i * 501 + k) 0)) none)
  pub behind : (k : ℕ) → suc i * 501 ≤ k → get_or new k 0 ≡ get_or old k 0
  pub within : c ≤ count
  pub long : length new ≡ length old
