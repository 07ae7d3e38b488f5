-- Acts one after another.
use Rattle.std.proofs.Common.{ℕ, suc, ◌+◌, ◌<◌, ◌≤◌, List, [], ◌++◌, map, refl, sym, ap, subst, ◌∙◌, arith, add-one, length-append}
use Rattle.tp_turn.proofs.Lower.{map-append, Entry, Take, NodeState, t414, Network, after, after_front}
use Rattle.tp_turn.specs.Lone.{LoneValue, Made}
use Rattle.tp_turn.specs.declared.take.TheConstants.{TAKES}
use Rattle.tp_turn.specs.Turns.{Then, InOrder}
use Rattle.tp_turn.specs.TrialTurns.{StaysOnLine, TookSo, TookAll}

-- what an act does to a network, and its entries
abbrev pub Act : Type 1
Act = Network NodeState → List Entry → Network NodeState → Type 0

-- ## Takes from one line

pub took_none : (t : LoneValue) (line : ℕ) → Made (TookSo line 0) 0 t t
unfolding after
took_none t line = record { entries = []; few = omega arith; counted = omega arith; did = record { tokens = []; many = refl; are = refl; leads = refl } }

pub took_more : (a b c : LoneValue) (line n : ℕ) → Made (TookSo line n) n a b → Made (TookSo line 1) 1 b c → Made (TookSo line (n + 1)) (n + 1) a c
took_more a b c line n G H = record {
  entries = G.entries ++ H.entries;
  few = omega (arith, length-append G.entries H.entries, G.few, H.few);
  counted = omega (arith, length-append G.entries H.entries, G.counted, H.counted);
  did = record {
    tokens = G.did.tokens ++ H.did.tokens;
    many = length-append G.did.tokens H.did.tokens ∙ omega (arith, G.did.many, H.did.many);
    are = ap (λ xs. xs ++ H.entries) G.did.are ∙ ap (λ xs. map (λ token. Take line token) G.did.tokens ++ xs) H.did.are ∙ sym (map-append (λ token. Take line token) G.did.tokens H.did.tokens);
    leads = after_front t414 a.network b.network G.entries H.entries G.did.leads ∙ H.did.leads;
  };
}

pub took_all : (a b : LoneValue) (line n : ℕ) → Made (TookSo line n) n a b → n ≤ TAKES → (n < TAKES → StaysOnLine b.network line) → Made (TookAll line) TAKES a b
took_all a b line n G few all = record { entries = G.entries; few = omega (arith, G.few, few); counted = G.counted; did = record { count = n; few = few; took = G.did; all = all } }

-- ## Acts in order

-- a higher bound
pub made_more : (act : Act) (few most : ℕ) (a b : LoneValue) → few ≤ most → Made act few a b → Made act most a b
made_more act few most a b enough G = record { entries = G.entries; few = omega (arith, G.few, enough); counted = G.counted; did = G.did }

pub order_none : (act : ℕ → Act) (t : LoneValue) → Made (InOrder act 0) 0 t t
unfolding InOrder
order_none act t = record { entries = []; few = omega arith; counted = omega arith; did = (refl, refl) }

pub then_made : (one other : Act) (few more : ℕ) (a b c : LoneValue) → Made one few a b → Made other more b c → Made (Then one other) (few + more) a c
then_made one other few more a b c G H = record {
  entries = G.entries ++ H.entries;
  few = omega (arith, length-append G.entries H.entries, G.few, H.few);
  counted = omega (arith, length-append G.entries H.entries, G.counted, H.counted);
  did = record { between = b.network; first = G.entries; second = H.entries; are = refl; one_did = G.did; other_did = H.did };
}

pub order_more : (act : ℕ → Act) (n few more : ℕ) (a b c : LoneValue) → Made (InOrder act n) few a b → Made (act n) more b c → Made (InOrder act (n + 1)) (few + more) a c
unfolding InOrder
order_more act n few more a b c G H = subst (λ m. Made (InOrder act m) (few + more) a c) (sym (add-one n)) (then_made (InOrder act n) (act n) few more a b c G H)

-- one act after others in order
pub order_next : (act : ℕ → Act) (n few more most : ℕ) (a b c : LoneValue) → few + more ≤ most → Made (InOrder act n) few a b → Made (act n) more b c → Made (InOrder act (suc n)) most a c
unfolding InOrder
order_next act n few more most a b c enough G H = made_more (InOrder act (suc n)) (few + more) most a c enough (then_made (InOrder act n) (act n) few more a b c G H)
