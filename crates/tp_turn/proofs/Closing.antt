-- Lines that are closed while other tokens come before their Markers.
use Rattle.std.proofs.Common.{◌≡◌, ℕ, true, false, cond, List, [], ◌∷◌, refl, sym, ap, subst, ◌∙◌, Option, Some, None}
use Rattle.tp_turn.proofs.Lower.{option_map, append-nil, Token, t414, Snapshot, closed_over, Close, happens, has_recorded_in, BookValue, agreed, world_of, after_close_over, is_closable, one_act}
use Rattle.tp_turn.specs.Books.{Grew}
use Rattle.tp_turn.specs.Hosted.{HostDone}
use Rattle.tp_turn.specs.Over.{ClosesOver}
use Rattle.tp_turn.proofs.Hosting.{host_none}

over_recorded : (given : Option Snapshot) (line p : ℕ) (tokens : List Token) → has_recorded_in (option_map (λ snap. closed_over snap line tokens) given) p ≡ has_recorded_in given p
over_recorded None line p tokens = refl
over_recorded (Some snap) line p tokens = refl

over_agreed : (b : BookValue) (line : ℕ) → agreed (after_close_over b line).state ≡ agreed b.state
unfolding agreed
over_agreed b line = refl

-- the line is closed
pub over_done : (b new : BookValue) (line : ℕ) → is_closable b line ≡ true → new ≡ after_close_over b line → happens t414 (world_of b) (Close line) ≡ Some (world_of new) → HostDone (ClosesOver line) b new
over_done b new line ready is act = record {
  acts = Close line ∷ [];
  added = record {
    did = one_act (world_of b) (world_of new) (Close line) act;
    grew = subst (Grew [] b) (sym is)
        (record { start = refl; entries_are = sym (append-nil b.state.entries); numbers = sym (append-nil b.numbers); base = refl; runs = refl; ready = refl; broken = refl; room = refl; history = sym (append-nil b.history); generation = refl; floor = refl; form = refl });
    own = tt;
    nodes = ap (λ x. agreed x.state) is ∙ over_agreed b line;
    recorded = λ process. ap (λ x. has_recorded_in x.state.snapshot process) is ∙ over_recorded b.state.snapshot line process _;
    frozen = ap (λ x. x.frozen) is;
  };
  did = record {
    are = sym (ap (λ c. cond c (Close line ∷ []) []) ready);
    is = is ∙ sym (ap (λ c. cond c (after_close_over b line) b) ready);
  };
}

-- it is left
pub over_left : (b : BookValue) (line : ℕ) → is_closable b line ≡ false → HostDone (ClosesOver line) b b
over_left b line shut = record {
  acts = [];
  added = host_none b;
  did = record { are = sym (ap (λ c. cond c (Close line ∷ []) []) shut); is = sym (ap (λ c. cond c (after_close_over b line) b) shut) };
}
