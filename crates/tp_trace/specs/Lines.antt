-- The lines in which steps are printed.
use Rattle.std.specs.Prelude.{ℕ, Bool, true, false, List, [], ◌∷◌, ◌++◌, Option, Some, None, Ok, Err, codes}
use Rattle.tp_trace.specs.Lower.{decimal, signed_decimal, op_of, operand_of, Fun, Opr, Instr, Op, Token, Data, Ack, Marker, Cpu, Standing, Halted, Waits, Free}
use Rattle.tp_trace.specs.Hex.{hex_byte, hex_word}
use Rattle.tp_trace.specs.Names.{fault_name, fun_name, op_name, state_name}
use Rattle.tp_trace.specs.declared.act.Act.{Act}
use Rattle.tp_trace.specs.declared.act.Act.TheVariants.{Instruction, Interrupt, DispatchHigh, Restore, DispatchLow}
use Rattle.tp_trace.specs.declared.hearing.Heard.{Heard}
use Rattle.tp_trace.specs.declared.stepping.Seen.{Seen}

-- an operation that `opr` selects
abbrev pub operation_text : Option Op → List ℕ
operation_text None = codes "opr"
operation_text (Some op) = op_name op

-- a function with its operand, or an operation
abbrev pub function_text : Fun → Instr → List ℕ
function_text Opr i = operation_text (op_of (operand_of i))
function_text f i = fun_name f ++ (codes " " ++ signed_decimal i.operand)

-- what a step does
abbrev pub act_text : Act → List ℕ
act_text (Instruction (Ok i)) = function_text i.fun i
act_text (Instruction (Err fault)) = codes "no instruction"
act_text Interrupt = codes "interrupt"
act_text DispatchHigh = codes "dispatch high"
act_text Restore = codes "restore"
act_text DispatchLow = codes "dispatch low"

-- the Error flag, if it is set
abbrev pub error_text : Bool → List ℕ
error_text false = []
error_text true = codes " error"

-- the number of a step, and where its instruction is
abbrev pub step_front : ℕ → ℕ → List ℕ
step_front number at = decimal number ++ (codes " " ++ (hex_word at ++ codes " "))

-- the stack, the workspace, what runs, and the Error flag
abbrev pub cpu_text : Cpu → List ℕ
cpu_text cpu =
    codes " A " ++ (hex_word cpu.regs.a ++ (codes " B " ++ (hex_word cpu.regs.b ++ (codes " C " ++ (hex_word cpu.regs.c
    ++ (codes " Wptr " ++ (hex_word cpu.wptr ++ (codes " " ++ (state_name cpu.state ++ error_text cpu.regs.error)))))))))

-- a token
abbrev pub token_text : Token → List ℕ
token_text (Data byte) = codes "Data " ++ hex_byte byte
token_text Ack = codes "Ack"
token_text Marker = codes "Marker"

-- what leaves, and on which link
abbrev pub sent_text : Option (ℕ × Token) → List ℕ
sent_text None = []
sent_text (Some sent) = codes " sends " ++ (decimal sent.0 ++ (codes " " ++ token_text sent.1))

-- the step of a number, as the front of a line
abbrev pub step_text : ℕ → Seen → List ℕ
step_text number seen = step_front number seen.at ++ (act_text seen.act ++ (cpu_text seen.cpu ++ sent_text seen.sent))

-- the line of a token that comes in
abbrev pub take_line : Heard → List ℕ
take_line heard = codes "takes " ++ (decimal heard.link ++ (codes " " ++ (token_text heard.token ++ (sent_text heard.sent ++ 10 ∷ []))))

-- why a node has no step
abbrev pub stop_line : Standing → List ℕ
stop_line (Halted fault at) = codes "halted " ++ (fault_name fault ++ (codes " at " ++ (hex_word at ++ 10 ∷ [])))
stop_line Waits = codes "waits" ++ 10 ∷ []
stop_line Free = codes "idle" ++ 10 ∷ []
