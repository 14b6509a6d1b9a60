-- `meter::forecast` meets its contract, an answer for each of its three ways.
use native.Mathlib.Omega.{arith}
use Rattle.theory_basics.specs.lemmas.Tests.{true_T}
use Rattle.meter.specs.lemmas.Order.{in_order_iff}
use Rattle.meter.specs.Meter.{samples_of}
use Rattle.meter.proofs.Promises.{forecast_promise}
use Rattle.meter.proofs.Sums.{forecasts_disorder, forecasts_none, forecasts_bytes}
use Rattle.std.proofs.Common.{sym, ◌∙◌}
use Rattle.meter.proofs.forecast.Goals as goal

pub returns-then-not-in_order : goal.returns-then-not-in_order
returns-then-not-in_order c = forecast_promise _ _ (forecasts_disorder c.args.m (sym c.in_order.ensures ∙ c.if-not-in_order.true))

pub returns-then-m-eq0 : goal.returns-then-m-eq0
returns-then-m-eq0 c = forecast_promise _ _ (forecasts_none c.args.m (sym c.in_order.ensures ∙ c.if-not-in_order.false) (omega arith))

pub mean-requires : goal.mean-requires
mean-requires c = ((in_order_iff (samples_of c.args.m)).0 (true_T _ (sym c.in_order.ensures ∙ c.if-not-in_order.false)), omega arith)

pub returns-else-m-eq0 : goal.returns-else-m-eq0
returns-else-m-eq0 c =
    forecast_promise _ _ (rw c.mean.ensures (forecasts_bytes c.args.m (sym c.in_order.ensures ∙ c.if-not-in_order.false) (omega arith)))
