-- Opening a device, one part after the other.
use Rattle.std.proofs.Common.{◌≡◌, ℕ, ◌+◌, Bool, List, refl, sym, ap, subst, ◌∙◌, Ok, Err}
use Rattle.std.specs.Prelude.{Result}
use Rattle.tp_recover.proofs.Lower.{Form, OpenFault, area_start, content_of, Moment, Head, head_of, Network, t414, t414_ends, NodeState, Opened, base_of, chosen_area, closed_in, cut_in, front_in, area_in, opening, verdict, Replay, after_rows, replay_from, ◌>>=◌, cut_front}
use Rattle.tp_recover.specs.declared.area.start.Start.{Start}
use Rattle.tp_recover.specs.declared.unopened.Unopened.{Unopened}
use Rattle.tp_recover.specs.AfterGroups.{after_groups}
use Rattle.tp_recover.specs.Reading.{ReadAnswer, found}
use Rattle.tp_recover.specs.Starts.{Read, read_as, read_of, read_in, IsStart, groups_of, opened_with, opened_after}
use Rattle.tp_recover.proofs.Passing.{passed}

-- ## Before the groups

-- ## An area

rows_then : (head : Head) (second : Bool) (read : Read) (end : ℕ) (rows : Result (Replay NodeState) OpenFault) (closed : Result (Unit {0}) OpenFault)
    → (rows >>= (λ last. closed >>= (λ shut. Ok (opened_with head second read (last, end)))))
    ≡ ((rows >>= (λ last. closed >>= (λ shut. Ok (last, end)))) >>= (λ both. Ok (opened_with head second read both)))
rows_then head second read end (Ok last) (Ok shut) = refl
rows_then head second read end (Ok last) (Err fault) = refl
rows_then head second read end (Err fault) closed = refl

-- an area is what comes before its groups, and then its groups
pub area_in-read : (head : Head) (second : Bool) (content : List ℕ) → area_in t414 t414_ends head second content ≡ (read_in head second content >>= opened_after head second content)
unfolding area_in
area_in-read head second content = go (front_in head.topology (area_start head.areas second) content) (cut_in t414_ends head.topology (area_start head.areas second + 1) content)
  where
    go : (front : Result Form OpenFault) (cut : Result (Network NodeState) OpenFault)
        → (front >>= (λ form. cut >>= (λ s. after_rows t414 (replay_from form s (base_of content)) (groups_of head second content).rows
        >>= (λ last. closed_in (groups_of head second content) >>= (λ shut. Ok (opened_with head second (read_as (cut_front content form) s) (last, (groups_of head second content).end)))))))
        ≡ (((front >>= (λ form. found (cut_front content form))) >>= (λ f. cut >>= (λ s. Ok (read_as f s)))) >>= opened_after head second content)
    go (Err fault) cut = refl
    go (Ok form) (Err fault) = refl
    go (Ok form) (Ok s) =
        rows_then head second (read_as (cut_front content form) s) (groups_of head second content).end (after_rows t414 (replay_from form s (base_of content)) (groups_of head second content).rows)
        (closed_in (groups_of head second content))

-- the content of an area at another moment
abbrev content_at : Head → Bool → Moment → List ℕ
content_at head second m = content_of head.areas second m.bytes

-- what isn't read is the answer of all
pub area_unread : {A : Type 0} (seen : A → Opened) (head : Head) (second : Bool) (content : List ℕ) (error : Unopened) (answer : Result A Unopened)
    → ReadAnswer read_of (read_in head second content) (Err error) → answer ≡ Err error → ReadAnswer seen (area_in t414 t414_ends head second content) answer
area_unread seen head second content error answer read told =
    subst (λ given. ReadAnswer seen given answer) (sym (area_in-read head second content)) (passed read_of seen (read_in head second content) (opened_after head second content) error answer read told)

area_read : (head : Head) (second : Bool) (content : List ℕ) (start : Start) → IsStart head start → read_in head second content ≡ Ok (read_of start)
    → area_in t414 t414_ends head second content ≡ (after_groups start.replay (groups_of head second content) >>= (λ both. Ok (opened_with head second (read_of start) both)))
area_read head second content start S read =
    area_in-read head second content ∙ ap (λ r. r >>= opened_after head second content) read
    ∙ ap (λ r. after_groups r (groups_of head second content) >>= (λ both. Ok (opened_with head second (read_of start) both))) (sym S.replay)

pub area_broken : {A B : Type 0} (seen : A → Opened) (seen_first : B → Replay NodeState × ℕ) (head : Head) (second : Bool) (old now : Moment) (start : Start) (error : Unopened) (answer : Result A Unopened)
    → IsStart head start → read_in head second (content_of head.areas second old.bytes) ≡ Ok (read_of start) → now ≡ old
    → ReadAnswer seen_first (after_groups start.replay (groups_of head second (content_of head.areas second now.bytes))) (Err error) → answer ≡ Err error
    → ReadAnswer seen (area_in t414 t414_ends head second (content_of head.areas second old.bytes)) answer
area_broken {A} {B} seen seen_first head second old now start error answer S read same groups told =
    subst (λ given. ReadAnswer seen given answer) (sym (area_read head second (content_at head second old) start S read))
    (passed seen_first seen (after_groups start.replay (groups_of head second (content_at head second old))) (λ both. Ok (opened_with head second (read_of start) both)) error answer
    (subst (λ m. ReadAnswer seen_first (after_groups start.replay (groups_of head second (content_at head second m))) (Err error)) same groups) told)

pub area_whole : (head : Head) (second : Bool) (old now : Moment) (start : Start) (last : Replay NodeState) (end : ℕ)
    → IsStart head start → read_in head second (content_of head.areas second old.bytes) ≡ Ok (read_of start) → now ≡ old
    → after_groups start.replay (groups_of head second (content_of head.areas second now.bytes)) ≡ Ok (last, end)
    → area_in t414 t414_ends head second (content_of head.areas second old.bytes) ≡ Ok (opened_with head second (read_of start) (last, end))
area_whole head second old now start last end S read same groups =
    area_read head second (content_at head second old) start S read
    ∙ ap (λ r. r >>= (λ both. Ok (opened_with head second (read_of start) both)))
    (ap (λ m. after_groups start.replay (groups_of head second (content_at head second m))) (sym same) ∙ groups)

-- ## A device

abbrev pub area_of : List ℕ → Head → Bool → Result Opened OpenFault
area_of bytes head second = area_in t414 t414_ends head second (content_of head.areas second bytes)

abbrev with_head : List ℕ → Head → Result Opened OpenFault
with_head bytes head = chosen_area head.areas bytes >>= area_of bytes head

pub verdict-head : (bytes : List ℕ) → verdict bytes ≡ (head_of bytes >>= with_head bytes)
unfolding verdict opening
verdict-head bytes = refl
