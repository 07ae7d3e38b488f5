use Rattle.tp_program.proofs.Used.{and_more, if_ok}
use Rattle.tp_program.proofs.backup_files.make_copy.Goals as goal

pub returns-clause-copied : goal.returns-clause-copied
returns-clause-copied g c =
    if_ok (Unit {0}) _ _ c.fill_and_name-made.result (λ all. c.fill_and_name-made.ensures.linked) (λ text linked.
    let is = linked tt in
    record {
      next = is.next;
      begun = g.N.Disk.state c.in_ok-copy.copy;
      left = is.left;
      copied = is.copied;
      uses = and_more _ _ _ _ _ c.in_ok-copy.ensures.begun.1 is.uses;
      is = is.is;
      line = is.line;
    })
