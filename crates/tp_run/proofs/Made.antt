-- What is made of a device that opened.
use Rattle.std.proofs.Common.{◌≡◌, ℕ, [], length, Option, sym, ap, ◌∙◌}
use Rattle.std.specs.Prelude.{get_or}
use Rattle.tp_run.proofs.Lower.{NodeState, t414_ends, Network, Port, MarkedNetwork, Opened, next_of, IsCut, NetState, now_of, opened_book, RaiserValue, PartsValue, IsMadeOf, next_is}
use Rattle.tp_run.specs.Outset.{outset_in, outset_of, outset_with}

abbrev fresh : Port
fresh = record { pending = []; in_base = 0; outputs = []; out_base = 0 }

-- a port is in it as in what was opened
pub outset_is : (s : NetState) (o : Opened) (room : Option ℕ) (port : ℕ) → now_of s ≡ o.now → s.base ≡ o.base → s.kept.items ≡ o.kept
    → outset_of (opened_book s room) port ≡ outset_in o port
outset_is s o room port now base kept =
    ap (λ next. outset_with port next (get_or (now_of s).ports port fresh)) (next_is s o room base kept)
    ∙ ap (λ (n : Network NodeState). outset_with port (next_of o) (get_or n.ports port fresh)) now

-- their network is of the kept cut's shape
pub shape_is : (o other : Opened) (parts : PartsValue) (raiser : RaiserValue) → other ≡ o → IsMadeOf o parts raiser → IsCut t414_ends o.head.topology o.base o.cut
    → (parts.book.state.start.wires ≡ other.cut.wires) × (length parts.book.state.start.nodes ≡ length other.cut.nodes) × (length parts.book.state.ports ≡ length other.cut.ports)
shape_is o other parts raiser same S cut = (
  ap (λ (n : MarkedNetwork NodeState). n.start.wires) S.book ∙ ap (λ (x : Opened). x.cut.wires) (sym same),
  ap (λ (n : MarkedNetwork NodeState). length n.start.nodes) S.book ∙ ap (λ (x : Opened). length x.cut.nodes) (sym same),
  S.ports ∙ sym cut.count ∙ ap (λ (x : Opened). length x.cut.ports) (sym same),
)
