use Rattle.std.proofs.Common.{inr}
use Rattle.tp_program.proofs.Used.{and_more, if_err, if_ok}
use Rattle.tp_program.proofs.files.look_file.Goals as goal

pub returns-clause-told : goal.returns-clause-told
returns-clause-told g c =
    if_ok _ _ _ c.status_on-told.result c.status_on-told.ensures.done (λ seen tells. record {
      opened = g.D.Disk.state c.in-Ok.disk;
      closed = g.D.Disk.state c.status_on-told.new.disk;
      read = g.D.Disk.reads c.status_on-told.new.disk;
      uses = and_more _ _ _ _ _ c.in-Ok.ensures.looked c.leave.ensures.noted;
      between = record {
        held = c.is_held-held.result;
        at = c.millis_of-at.result;
        clock = c.clock_of-clock.result;
        tells = tells;
        left = c.status_on-told.ensures.leaves;
      };
    })

pub returns-clause-refused : goal.returns-clause-refused
returns-clause-refused g c =
    if_err _ _ c.status_on-told.result c.status_on-told.ensures.status (λ status one. inr (
      one,
      record {
        opened = g.D.Disk.state c.in-Ok.disk;
        closed = g.D.Disk.state c.status_on-told.new.disk;
        read = g.D.Disk.reads c.status_on-told.new.disk;
        uses = and_more _ _ _ _ _ c.in-Ok.ensures.looked c.leave.ensures.noted;
        between = record {
          held = c.is_held-held.result;
          at = c.millis_of-at.result;
          clock = c.clock_of-clock.result;
          front = c.status_on-told.ensures.front;
          left = c.status_on-told.ensures.leaves;
          unopened = λ are bad. (c.status_on-told.ensures.refused are bad).1;
        };
      },
    ))
