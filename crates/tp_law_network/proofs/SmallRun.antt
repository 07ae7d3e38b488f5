-- The small format in use.
use Rattle.std.proofs.Common.{◌≡◌, ℕ, zero, suc, false, List, [], ◌∷◌, get_or, refl, sym, ap, ◌∙◌, Some, None}
use Rattle.tp_law_network.proofs.Lower.{false≢true, HostIn, Token, GATE_CLOSED, ◌>>=◌, Machine, Network, own, put, has_wire, taken, pushed, sent, process, takes, of_port, does, next, acts, after, markers, journalled, happens, IsOpened, add_body, body_done, add_gate, gate_done, fresh, BeginsFormatted}
use Rattle.tp_law_network.specs.Small.{entries_at, small_verdict, small_areas}
use Rattle.tp_law_network.specs.SmallRun.{EachAnswers, Stores, one_port, made_world}

pub each_answers : {Node : Type 0} (M : Machine Node) (image : ℕ → Network Node) → EachAnswers M image
unfolding entries_at small_verdict after
each_answers M image = record { verdict = refl; spare = refl; group = λ x. refl; other = refl; open_other = refl }

pub made_formatted : {Node : Type 0} (M : Machine Node) (image : ℕ → Network Node) → IsOpened M (fresh (image 0)) → BeginsFormatted M (small_areas M image) (image 0) (made_world image)
made_formatted M image opened = record {
  reads = (each_answers M image).verdict;
  synced = refl;
  opened = opened;
  net = refl;
  rests = (refl, refl);
  none = (refl, refl, refl, refl, refl);
}

pub stores : {Node : Type 0} (M : Machine Node) (image : ℕ → Network Node) (x : ℕ) (live : Network Node) → next M (image 0) (HostIn 0 x) ≡ Some live → Stores M image x
unfolding happens
stores M image x live possible = record {
  last = _;
  run = (
    _,
    (refl, journalled (fresh (image 0)) (HostIn 0 x) live, ap (λ found. found >>= λ t. Some (journalled (fresh (image 0)) (HostIn 0 x) t)) possible, refl),
    (
      _,
      (refl, refl),
      (
        _,
        (add_body (HostIn 0 x ∷ []) [] 4 (x ∷ GATE_CLOSED ∷ []) refl ((each_answers M image).group x), refl),
        (
          _,
          (body_done (HostIn 0 x ∷ []) 4, refl),
          (
            _,
            (add_gate (HostIn 0 x ∷ []) 4, refl),
            (
              _,
              (gate_done (HostIn 0 x ∷ []) 4, refl),
              (_, refl, refl),
            ),
          ),
        ),
      ),
    ),
  );
  mark = refl;
}

-- ## A network of one port

one_port_opened : {Node : Type 0} (M : Machine Node) → IsOpened M (fresh one_port)
unfolding after
one_port_opened M = record {
  idle = refl;
  now = refl;
  unmarked = λ line. ap markers (no_token line);
  lines = refl;
  wired = λ line h. absurd (false≢true (sym (no_wire line) ∙ h));
  unwired = λ line h. no_token line;
}
  where
    no_token : (line : ℕ) → ◌≡◌ {A = List Token} (get_or ([] ∷ []) line []) []
    no_token zero = refl
    no_token (suc line) = refl

    no_wire : (line : ℕ) → has_wire (None ∷ []) line ≡ false
    no_wire zero = refl
    no_wire (suc line) = refl

one_port_takes : {Node : Type 0} (M : Machine Node) (x : ℕ) → (live : Network Node) × (next M one_port (HostIn 0 x) ≡ Some live)
unfolding next acts process takes taken own does of_port sent pushed put
one_port_takes M x = (_, refl)

-- a device made with it, and a run that stores a byte
pub one_port_formatted : {Node : Type 0} (M : Machine Node) → BeginsFormatted M (small_areas M (λ code. one_port)) one_port (made_world (λ code. one_port))
one_port_formatted M = made_formatted M (λ code. one_port) (one_port_opened M)

pub one_port_stores : {Node : Type 0} (M : Machine Node) (x : ℕ) → Stores M (λ code. one_port) x
one_port_stores M x = let T = one_port_takes M x in stores M (λ code. one_port) x T.0 T.1
