use Rattle.std.proofs.Common.{◌≡◌, ◌<◌, ℕ, List, Option, Some, None, IsSomeAnd, codes, inr}
use Rattle.tp_words.proofs.Lower.{decimal, option_map, Global, String}
use Rattle.tp_words.specs.Given.{given, IsGivenOr}
use Rattle.tp_words.specs.Refused.{IsJournalFault, IsOrderFault}
use Rattle.tp_words.specs.declared.arg_fault.ArgFault.{ArgFault}
use Rattle.tp_words.specs.declared.arg_fault.ArgFault.TheVariants.{Order}
use Rattle.tp_words.proofs.StreamFaults.{on_told}
use Rattle.tp_words.proofs.journal_args.journal_view.Goals as goal

-- what was typed for the two numbers is out of order
of_order : (words : List (String Global)) (from : ℕ) (to : Option ℕ) (fault : ArgFault) → fault ≡ Order → IsGivenOr 0 from (given (codes "from") words)
    → given (codes "to") words ≡ option_map decimal to → IsSomeAnd to (λ to. to < from) → IsOrderFault words fault
of_order words from None fault is first last less = absurd (less)
of_order words from (Some to) fault is first last less = (is, from, to, first, last, less)

pub returns-in_err-in_order-clause-refused : goal.returns-in_err-in_order-clause-refused
returns-in_err-in_order-clause-refused c =
    let words = c.args.words.now in
    let fault = c.in_err-in_order.field-0.0 in
    let part = c.in_ok-part.part in
    let typed = c.in_ok-part.ensures.typed in
    let told = c.in_err-in_order.ensures.refused in
    on_told c.from_residual-in_err-in_order.result fault (λ (told : ArgFault). IsJournalFault words told) c.from_residual-in_err-in_order.ensures.1
    (inr (of_order words part.from part.to fault told.0 typed.0 typed.1 told.1))
