-- An event: when it comes, and what it then asks for, in order.
use Rattle.std.specs.Prelude.{List}
use Rattle.agc_plan.specs.declared.request.Request.{Request}
use Rattle.agc_clock.specs.Coming.{Coming}

pub record Event : Type 0 where
  pub times : Coming
  pub requests : List Request
