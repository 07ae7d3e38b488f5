-- What is made of a device that opened.
use Rattle.std.proofs.Common.{◌≡◌, ℕ, List, length, Option, Some, ap, ◌∙◌, arith, map}
use Rattle.tp_flush.proofs.Lower.{length-map, NodeState, t414, t414_ends, Network, Opened, next_of, book_of, after, IsCut, has_four_links, after_shape, Entry, NetState, BookValue, next_in_book, world_of, kept_entries, now_of, opened_book, RaiserValue, unrisen, PartsValue}
use Rattle.tp_flush.specs.Made.{IsMadeOf}

pub kept_is : (s : NetState) (o : Opened) → s.kept.items ≡ o.kept → kept_entries s ≡ map (λ e. e.0) o.kept
kept_is s o same = ap (λ (kept : List (Entry × ℕ)). map (λ e. e.0) kept) same

-- the number after its entries is the next one
pub next_is : (s : NetState) (o : Opened) (room : Option ℕ) → s.base ≡ o.base → s.kept.items ≡ o.kept → next_in_book (opened_book s room) ≡ next_of o
next_is s o room base kept =
    let entries : length (kept_entries s) ≡ length o.kept = ap length (kept_is s o kept) ∙ length-map o.kept (λ e. e.0) in
    omega (arith, base, entries)

-- its book has the ports of the topology
pub ports_are : (s : NetState) (o : Opened) → now_of s ≡ o.now → IsCut t414_ends o.head.topology o.base o.cut → after t414 o.cut (map (λ e. e.0) o.kept) ≡ Some o.now
    → length (now_of s).ports ≡ o.head.topology.ports
ports_are s o now cut leads =
    ap (λ (n : Network NodeState). length n.ports) now ∙ (after_shape t414 has_four_links o.cut o.now (map (λ e. e.0) o.kept) leads).ports ∙ cut.count

-- the parts of the book of a state that was opened
pub stands : (s : NetState) (o : Opened) (room : Option ℕ) (parts : PartsValue) (raiser : RaiserValue) → now_of s ≡ o.now → s.base ≡ o.base → (opened_book s room).form ≡ o.form → s.next ≡ next_of o
    → s.kept.items ≡ o.kept → IsCut t414_ends o.head.topology o.base o.cut → after t414 o.cut (map (λ e. e.0) o.kept) ≡ Some o.now
    → world_of (opened_book s room) ≡ book_of o → parts.book ≡ opened_book s room → parts.first ≡ next_in_book (opened_book s room)
    → raiser ≡ record { mark = parts.mark; at = s.next; rises = unrisen s.next } → IsMadeOf o parts raiser
stands s o room parts raiser now base form next kept cut leads world book first raised = record {
  book = ap world_of book ∙ world;
  base = ap (λ (b : BookValue). b.base) book ∙ base;
  form = ap (λ (b : BookValue). b.form) book ∙ form;
  whole = ap (λ (b : BookValue). b.broken) book;
  first = first ∙ next_is s o room base kept;
  ports = ap (λ (b : BookValue). length b.state.ports) book ∙ ports_are s o now cut leads;
  raised = raised ∙ ap (λ n. record { mark = parts.mark; at = n; rises = unrisen n }) next;
}
