-- `find_forward` meets its contract: the forward set is the largest.
use mathlib.Core.Path.{refl}
use native.Mathlib.Omega.{arith}
use Rattle.most.proofs.Finding.{forward_found}
use Rattle.most.proofs.find_forward.Goals as goal

pub returns : goal.returns
returns c =
    let placed = c.place_at_end-first.ensures in
    record {
      each = λ j h. forward_found h (c.keep_forward-kept.ensures j h) refl placed refl;
      within = omega (arith, placed.within);
    }
