-- What a mark shows.
use Rattle.std.proofs.Common.{◌≡◌, ℕ, ◌+◌, ◌≤◌, [], length, sym, ap, ◌∙◌, arith, Some, slice_get}
use Rattle.std.specs.Prelude.{vec_len, nat_le}
use Rattle.tp_book.proofs.Lower.{count_by-le-length, option_map, slice_get-map, get_or_from_slice_get}
use Rattle.tp_book.specs.declared.journal.Journal.TheInside.{Inside}
use Rattle.tp_book.specs.Inside.{value_of, IsJournal}
use Rattle.tp_book.specs.Ports.{PortValue}
use Rattle.tp_book.specs.Calls.{marks_of}
use Rattle.tp_book.specs.Host.{port_in, shown_upto_of, ShowsUpto}
use Rattle.tp_book.proofs.HostTaken.{port_counts}
use Rattle.tp_book.proofs.Confirming.{port_found}
use Rattle.tp_book.proofs.Rising.{within_first, within_last}

module _ (b : Inside) (B : IsJournal b) (p : ℕ) (was : PortValue) (at : slice_get b.ports.items p ≡ Some was) (len : length was.marks ≡ length was.port.outputs) where
  marks_at : slice_get (value_of b).marks p ≡ Some was.marks
  marks_at = slice_get-map (λ q. q.marks) b.ports.items p ∙ ap (option_map (λ q. q.marks)) at

  marks_are : marks_of (value_of b) p ≡ was.marks
  marks_are = get_or_from_slice_get (value_of b).marks p was.marks [] marks_at

  -- as many marks as outputs
  each_mark : length (marks_of (value_of b) p) ≡ length (port_in (value_of b) p).outputs
  each_mark = ap length marks_are ∙ len ∙ ap (λ port. length port.outputs) (sym (port_found b p was at))

  -- a mark shows exactly the outputs before the position in the answer
  pub shows_upto : (mark : ℕ) → ShowsUpto (value_of b) p mark (shown_upto_of (value_of b) p mark)
  shows_upto mark =
      let rising = B.rising p (marks_of (value_of b) p) (marks_at ∙ ap Some (sym marks_are)) in
      record {
        each = each_mark;
        within = omega (arith, each_mark, count_by-le-length (λ least. nat_le least mark) (marks_of (value_of b) p));
        shown = λ k below. within_first mark 0 (b.base + vec_len b.entries) (marks_of (value_of b) p) rising k (omega (arith, below));
        hidden = λ k below past. within_last mark 0 (b.base + vec_len b.entries) (marks_of (value_of b) p) rising k (omega (arith, each_mark, below)) (omega (arith, past));
      }

  -- a port has given out no more than there are entries
  pub shown_few : (mark : ℕ) → shown_upto_of (value_of b) p mark ≤ b.base + vec_len b.entries
  shown_few mark =
      let counts = port_counts b B p was at in
      omega (arith, (shows_upto mark).within, counts.outputs, ap (λ port. port.out_base) (port_found b p was at), ap (λ port. length port.outputs) (port_found b p was at))
