-- The promises of the module `front` of `program_rules`, each from its law. Assumes nothing.
use Rattle.program_rules.specs.Promises.{Promises}
use Rattle.program_rules.proofs.Front.FileLaws.{long_not_short, long_refused, same_fault}
use Rattle.program_rules.proofs.Front.InputLaws.{same_answer, same_reply, refused_if_long}

pub promises : Promises
promises =
    record {
      long_not_short = long_not_short;
      long_refused = long_refused;
      same_fault = same_fault;
      same_answer = same_answer;
      same_reply = same_reply;
      refused_if_long = refused_if_long;
    }
