use Rattle.std.proofs.Common.{arith, refl, rules}
use Rattle.pep_tool.proofs.program.run_in.Goals as goal

pub returns-in-Ok : goal.returns-in-Ok
returns-in-Ok g c = record {
  runs = record {
    status = search rules;
    printed = λ _. c.in-Ok.ensures.printed;
    no_failure = λ _. c.in-Ok.ensures.no_failure;
    quiet = λ _. search rules;
    unread = c.print_reply.ensures.unread;
    bytes = c.print_reply.ensures.bytes;
    calls = c.print_reply.ensures.calls;
    told = λ e. absurd (omega (arith, e, c.in-Ok.ensures.status));
    silent = λ e. absurd (omega (arith, e, c.in-Ok.ensures.status));
  };
}

pub returns-in-Err : goal.returns-in-Err
returns-in-Err g c = record {
  runs = record {
    status = search rules;
    printed = λ n. absurd (n refl);
    no_failure = λ n. absurd (n refl);
    quiet = λ n. absurd (n refl);
    unread = c.print_reply.ensures.unread;
    bytes = c.print_reply.ensures.bytes;
    calls = c.print_reply.ensures.calls;
    told = λ _. record { fault = c.in-Err.fault; refuses = c.in-Err.ensures.refused; line = c.tell.ensures };
    silent = λ _. c.in-Err.ensures.silent;
  };
}
