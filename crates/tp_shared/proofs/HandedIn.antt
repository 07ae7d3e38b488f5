-- What the host hands in, of entries of each kind. Turns hand in nothing.
use Rattle.std.proofs.Common.{◌≡◌, ℕ, zero, suc, Bool, true, false, inl, inr, List, [], ◌∷◌, ◌++◌, map, length, refl, ap, ◌∙◌}
use Rattle.std.specs.Prelude.{◌==◌, nat_le, nat_lt, if◌then◌else◌, Result, Ok, Err}
use Rattle.tp_shared.proofs.Lower.{Entry, Run, Take, HostIn, Confirm, Turn, Received, NodeState, Network, by_link, turn_entries, run_of, confirm_entries, Refusal, BookValue, port_in, Opened, Apart, Whole, opened_entries}
use Rattle.tp_shared.specs.Entries.{AreTakes, TakesOf, OpenedEntries}
use Rattle.tp_shared.specs.HandedIn.{handed}

pub handed-append : (xs ys : List Entry) → handed (xs ++ ys) ≡ handed xs ++ handed ys
handed-append [] ys = refl
handed-append (Run i k ∷ xs) ys = handed-append xs ys
handed-append (Take line token ∷ xs) ys = handed-append xs ys
handed-append (HostIn p x ∷ xs) ys = ap (λ es. HostIn p x ∷ es) (handed-append xs ys)
handed-append (Confirm p upto ∷ xs) ys = ap (λ es. Confirm p upto ∷ es) (handed-append xs ys)
handed-append (Turn i links k ∷ xs) ys = handed-append xs ys

-- ## What the host does

pub handed_inputs : (port : ℕ) (bytes : List ℕ) → handed (map (HostIn port) bytes) ≡ map (HostIn port) bytes
handed_inputs port [] = refl
handed_inputs port (x ∷ xs) = ap (λ es. HostIn port x ∷ es) (handed_inputs port xs)

confirmed_if : (before : Bool) (port upto : ℕ) → handed (if before then [] else Confirm port upto ∷ []) ≡ (if before then [] else Confirm port upto ∷ [])
confirmed_if true port upto = refl
confirmed_if false port upto = refl

pub handed_confirm : (b : BookValue) (port upto : ℕ) → handed (confirm_entries b port upto) ≡ confirm_entries b port upto
handed_confirm b port upto = confirmed_if (nat_le upto (port_in b port).out_base) port upto

-- ## What turns do

pub handed_takes : (start : Network NodeState) (number : ℕ) (es : List Entry) → AreTakes start number es → handed es ≡ []
handed_takes start number [] takes = refl
handed_takes start number (Run i k ∷ es) takes = absurd takes.0
handed_takes start number (Take line token ∷ es) takes = handed_takes start number es takes.1
handed_takes start number (HostIn p x ∷ es) takes = absurd takes.0
handed_takes start number (Confirm p upto ∷ es) takes = absurd takes.0
handed_takes start number (Turn i links k ∷ es) takes = absurd takes.0

pub handed_turn : (start : Network NodeState) (number : ℕ) (r : Result ℕ Refusal) (es : List Entry) → TakesOf start number r es → handed es ≡ []
handed_turn start number (Ok count) es takes = handed_takes start number es takes.1
handed_turn start number (Err e) es takes = handed_takes start number es takes

ran_if : (none : Bool) (number count : ℕ) → handed (if none then [] else Run number count ∷ []) ≡ []
ran_if true number count = refl
ran_if false number count = refl

one_run : (number count : ℕ) → handed (run_of number count) ≡ []
one_run number zero = refl
one_run number (suc count) = refl

turned_if : (took : Bool) (number : ℕ) (takes : List Received) (count : ℕ) → handed (if took then Turn number takes count ∷ [] else run_of number count) ≡ []
turned_if true number takes count = refl
turned_if false number takes count = one_run number count

one_turn : (number : ℕ) (takes : List Received) (count : ℕ) → handed (turn_entries number takes count) ≡ []
one_turn number takes count = turned_if (nat_lt 0 (length (by_link 0 takes))) number takes count

pub handed_opening : (start : Network NodeState) (number : ℕ) (r : Result Opened Refusal) (es : List Entry) → OpenedEntries start number r es → handed es ≡ []
handed_opening start number (Ok (Apart taken)) es are = handed_takes start number es are.1
handed_opening start number (Ok (Whole taken)) es are = ap handed are
handed_opening start number (Err e) es (inl takes) = handed_takes start number es takes
handed_opening start number (Err e) es (inr once) = ap handed once.are ∙ one_turn number once.takes 0

pub handed_commit : (number : ℕ) (opened : Opened) (count : ℕ) → handed (opened_entries number opened count) ≡ []
handed_commit number (Apart taken) count = ran_if (count == 0) number count
handed_commit number (Whole taken) count = one_turn number taken.takes count
