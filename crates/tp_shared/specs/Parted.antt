-- Parts that belong together.
use Rattle.std.specs.Prelude.{◌≡◌, ℕ, zero, suc, List, [], ◌∷◌, map, length, None}
use Rattle.tp_shared.specs.Lower.{MarkName, Entry, NodeContents, NetState, BookValue, IsWellOpen, now_of, opened_book}
use Rattle.tp_shared.specs.Hands.{AreOfRow}
use Rattle.tp_shared.specs.Seals.{Sealed, IsTied}
use Rattle.tp_shared.specs.declared.nodes.dealt.Dealt.{Dealt}
use Rattle.tp_shared.specs.declared.nodes.seal.NodeSeal.{NodeSeal}

-- The book of an opened device, and the nodes of its network as it is.
pub record AreOfOpened (book : BookValue) (nodes : List NodeContents) : Type 0 where
  pub state : NetState
  pub opened : IsWellOpen state
  pub book_is : book ≡ opened_book state book.room
  pub nodes_are : map (λ n. n.live) nodes ≡ (now_of state).nodes

-- the name of each seal
abbrev pub name_of : List NodeSeal → ℕ → ℕ
name_of [] i = 0
name_of (s ∷ ss) zero = s.seal.name
name_of (s ∷ ss) (suc i) = name_of ss i

-- Seals and places of `count` nodes of a book: each seal and the key beside its node show what the book agrees on.
pub record IsDealt (b : BookValue) (seals : List NodeSeal) (dealt : Dealt) (count : ℕ) : Type 0 where
  pub many : length seals ≡ count
  pub sealed : Sealed (name_of seals) seals b
  pub zeroth : AreOfRow 0 1 2 3 (name_of seals) count dealt.row0
  pub first : AreOfRow 4 5 6 7 (name_of seals) count dealt.row1
  pub second : AreOfRow 8 9 10 11 (name_of seals) count dealt.row2
  pub third : AreOfRow 12 13 14 15 (name_of seals) count dealt.row3

-- The parts belong together: no take is made ready, and each node has a seal and a place. The roll has no entry yet. Both halves of what
-- the flusher is told have one name, as do both halves of what the host hands in. The host has handed in nothing, and nothing of the book was
-- seen.
pub record AreParts {A : Type 0} (b : BookValue) (seals : List NodeSeal) (dealt : Dealt) (roll_first : ℕ) (all : List Entry) (told_seal told_key given_seal given_key : ℕ) (seal_entries key_entries : List Entry) (sights : List A) : Type 0 where
  pub idle : b.ready ≡ None
  pub runs : length b.runs ≡ length b.state.start.nodes
  pub shares : IsDealt b seals dealt (length b.state.start.nodes)
  pub tied : IsTied roll_first all b
  pub none : all ≡ []
  pub twins : told_seal ≡ told_key
  pub host_twins : given_seal ≡ given_key
  pub seal_shows : seal_entries ≡ []
  pub key_shows : key_entries ≡ []
  pub unseen : sights ≡ []

-- What contracts see of parts:
-- - the book and the seals;
-- - the name of the roll, the number of its first entry and its entries;
-- - the mark;
-- - the names of what the flusher is told, of what the host hands in and of the roll of what is seen of the book.
pub record PartsValue : Type 0 where
  pub book : BookValue
  pub seals : List NodeSeal
  pub roll : ℕ
  pub first : ℕ
  pub all : List Entry
  pub mark : MarkName
  pub flusher : ℕ
  pub host : ℕ
  pub sights : ℕ
