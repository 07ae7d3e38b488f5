use Rattle.std.proofs.Common.{[], refl}
use Rattle.tp_flush.proofs.Lower.{t414, formatted_starts, formatted_world}
use Rattle.tp_flush.proofs.laws.first_process_begins.Goals as goal

pub returns : goal.returns
returns c = λ t areas form images start bytes W left may. record {
  reached = record { first = formatted_world start bytes; events = []; formatted = formatted_starts t414 t areas form images start bytes W; run = refl };
  may = may;
}
