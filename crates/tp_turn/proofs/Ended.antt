-- What a turn leaves once its entries are dropped, and what a trial answers after its turns.
use Rattle.std.proofs.Common.{◌≡◌, ℕ, length, sym, ap, subst, ◌∙◌, arith, Option, Some, None, slice_get}
use Rattle.std.specs.Prelude.{is_some, Ok}
use Rattle.tp_turn.proofs.Lower.{NodeState, NodeContents, BookValue, agreed, next_in_book, after_drop, network_now}
use Rattle.tp_turn.specs.Moments.{IsNodeOf}
use Rattle.tp_turn.specs.Lone.{Begins, IsLoneBook, IsOutputOf, Made, StandsAs, WentByAct, lone_of, lone_value}
use Rattle.tp_turn.specs.Output.{TrialAs}
use Rattle.tp_turn.specs.Tried.{lone_network}
use Rattle.tp_turn.specs.TrialTurns.{AreTurns}
use Rattle.tp_turn.specs.declared.lone.Lone.{Lone}
use Rattle.tp_turn.specs.declared.trial.Trial.{Trial}
use Rattle.tp_turn.proofs.Led.{turns_lead}
use Rattle.tp_turn.proofs.Made.{Act}

-- ## Entries that are dropped

dropped_book : (a b : BookValue) → IsLoneBook a → b ≡ after_drop a → agreed b.state ≡ agreed a.state → IsLoneBook b
dropped_book a b L is same = record {
  alone = ap (λ (x : BookValue). x.room) is ∙ L.alone;
  idle = ap (λ (x : BookValue). x.state.snapshot) is ∙ L.idle;
  ready = ap (λ (x : BookValue). x.ready) is ∙ L.ready;
  runs = ap (λ (x : BookValue). x.runs) is ∙ L.runs;
  whole = ap (λ (x : BookValue). x.broken) is ∙ L.whole;
  nodes = ap (λ (x : BookValue). length x.state.start.nodes) is ∙ L.many;
  many = ap length same ∙ L.many;
  ports = ap (λ (x : BookValue). length x.state.ports) is ∙ L.ports;
  form = ap (λ (x : BookValue). x.form) is ∙ L.form;
}

-- a node that isn't frozen is the one of a book that agrees on it
pub node_of : (b : BookValue) (n : NodeContents) (a : BookValue) → n.frozen ≡ None → agreed b.state ≡ agreed a.state → IsNodeOf a 0 n → IsNodeOf b 0 n
node_of b n a thawed same N = record {
  there = ap (λ ns. slice_get ns 0) same ∙ N.there;
  image = N.image;
  recorded = λ some. absurd (let none = ap is_some thawed in cc);
  kept = λ here its h k. cc;
}

dropped_value : (a b : BookValue) → b ≡ after_drop a → network_now b ≡ network_now a → lone_value b ≡ lone_value a
dropped_value a b is net =
    let number : next_in_book b ≡ next_in_book a = ap next_in_book is ∙ omega arith in
    ap (λ s. record { network = s; entries = next_in_book b }) net ∙ ap (λ n. record { network = network_now a; entries = n }) number

pub went_dropped : (act : Act) (most : ℕ) (a b : Lone) (book : BookValue) → book ≡ after_drop b.book → agreed book.state ≡ agreed b.book.state → network_now book ≡ network_now b.book → WentByAct act most a b → WentByAct act most a (record b { book = book })
went_dropped act most a b book is same net W = record {
  made = subst (Made act most (lone_of a)) (sym (dropped_value b.book book is net)) W.made;
  lone = record {
    book = dropped_book b.book book W.lone.book is same;
    node = node_of book b.node b.book W.lone.thawed same W.lone.node;
    thawed = W.lone.thawed;
  };
}

-- ## The answer

pub trial_is : (o : Option NodeState) (node : NodeState) (a b : Lone) (turns quantum most : ℕ) (trial : Trial) → o ≡ Some node → Begins node a → WentByAct (AreTurns quantum turns) most a b
    → IsOutputOf (lone_of b).network trial.output.items → StandsAs (lone_of b).network trial.standing → TrialAs o turns quantum (Ok trial)
trial_is o node a b turns quantum most trial fresh B W held stands =
    let turned : AreTurns quantum turns (lone_network node) W.made.entries (network_now b.book) = subst (λ s. AreTurns quantum turns s W.made.entries (network_now b.book)) B.network W.made.did in
    subst (λ x. TrialAs x turns quantum (Ok trial)) (sym fresh)
    (record {
      output_is = record {
        entries = W.made.entries;
        end = network_now b.book;
        leads = turns_lead quantum turns (lone_network node) (network_now b.book) W.made.entries turned;
        turned = turned;
        held = held;
      };
      stands = stands;
    })
