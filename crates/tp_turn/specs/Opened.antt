-- A node's turn in the form of its book: it is opened by the book's form, and committed by how it was opened.
use Rattle.std.specs.Prelude.{◌≡◌, ℕ, List, [], ◌++◌, map, length, Option, Some, None, Result, Ok, Err}
use Rattle.tp_turn.specs.Lower.{Entry, Form, Plain, Turns, Received, Token, Act, Journal, by_link, turn_entries, NodeContents, Refusal, run_entries, BookValue}
use Rattle.tp_turn.specs.declared.opened.Opened.{Opened}
use Rattle.tp_turn.specs.declared.opened.Opened.TheVariants.{Apart, Whole}
use Rattle.tp_turn.specs.Moments.{TurnMoment, IsNodeOf}
use Rattle.tp_turn.specs.Receiving.{IsAhead}
use Rattle.tp_turn.specs.Stages.{Opens, HasRunOn}
use Rattle.tp_turn.specs.Whole.{OpensWhole, HasTurnedOn}

-- ## What was taken

-- what the node received for the turn's one entry, by link; `None` if each token that it took is an entry
abbrev pub turn_received : Opened → Option (List Received)
turn_received (Apart taken) = None
turn_received (Whole taken) = Some taken.takes

-- the tokens that are on their lines until the commit, each with its link
abbrev pub tokens_in : Option (List Received) → List (ℕ × Token)
tokens_in None = []
tokens_in (Some takes) = by_link 0 takes

-- what the node answered to them, which goes onto its lines at the commit, each token with its link
abbrev pub sent_in : Opened → List (ℕ × Token)
sent_in (Apart taken) = []
sent_in (Whole taken) = taken.sent.items

-- how many tokens it took
abbrev pub taken_in : Opened → ℕ
taken_in (Apart taken) = taken
taken_in (Whole taken) = length (by_link 0 taken.takes)

-- ## A turn is opened

-- In a book of form `Plain` it is opened with an entry for each token, in one of form `Turns` for one entry in all.
abbrev pub OpensIn : Form → ℕ → Result Opened Refusal → TurnMoment → TurnMoment → Type 0
OpensIn Plain number (Ok (Apart taken)) s t = Opens number (Ok taken) s t
OpensIn Plain number (Ok (Whole taken)) s t = ⊥
OpensIn Plain number (Err e) s t = Opens number (Err e) s t
OpensIn Turns number (Ok (Apart taken)) s t = ⊥
OpensIn Turns number (Ok (Whole taken)) s t = OpensWhole number (Ok taken) s t
OpensIn Turns number (Err e) s t = OpensWhole number (Err e) s t

-- The node is then ahead of its book if it received; else the book has its node.
abbrev pub IsOpenedIn : Result Opened Refusal → BookValue → ℕ → NodeContents → Type 0
IsOpenedIn (Ok (Apart taken)) b number node = IsNodeOf b number node
IsOpenedIn (Ok (Whole taken)) b number node = IsAhead b number taken.takes taken.sent.items node
IsOpenedIn (Err e) b number node = IsNodeOf b number node

-- ## It is committed

-- Since the turn was opened, the node made `count` steps and sent `tokens` in them. A turn that is one entry needs a book of form Turns.
abbrev pub HasTurnedBy : BookValue → ℕ → Opened → ℕ → List (ℕ × Token) → NodeContents → Type 0
HasTurnedBy b number (Apart taken) count tokens node = HasRunOn b number count tokens node
HasTurnedBy b number (Whole taken) count tokens node =
    (b.form ≡ Turns) × HasTurnedOn b number taken.takes count (taken.sent.items ++ tokens) node

-- the entry that the commit makes, or none
abbrev pub opened_entries : ℕ → Opened → ℕ → List Entry
opened_entries number (Apart taken) count = run_entries number count
opened_entries number (Whole taken) count = turn_entries number taken.takes count

-- and its act
abbrev pub opened_acts : ℕ → Opened → ℕ → List Act
opened_acts number opened count = map Journal (opened_entries number opened count)
