-- The promises of the crate `program`, each from its law. Assumes nothing.
use mathlib.Core.Path.{refl, sym, ◌∙◌}
use Rattle.refusal.specs.Answer.{value}
use Rattle.program_rules.specs.Reply.{answer_to, reply, replied, responded}
use Rattle.program_rules.proofs.Replies.KnownLaws.{answer-known, known-refusal}
use Rattle.program.specs.Promises.{Promises}
use Rattle.program.proofs.PromiseLaws.{
  text-stands,
  text-refused,
  refusal-refused,
  reply-text,
  reply-no-room,
  reply-line,
  reply-at-most,
  one_seen,
}

pub promises : Promises
unfolding replied responded
promises =
    record {
      written = λ input out text. text-stands out (answer_to input) text;
      too_long = λ input out text. text-refused out (answer_to input) text;
      refused = λ input out k. refusal-refused out (answer_to input) k;
      known = λ input k. known-refusal (answer_to input) k (answer-known input);
      text = reply-text;
      no_room = reply-no-room;
      line = reply-line;
      at_most = reply-at-most;
      responds = λ input out. text-stands out (value (reply input)) (reply input) refl;
      responds_not = λ input out. text-refused out (value (reply input)) (reply input) refl;
      one_answer = λ input out a b r q e d. one_seen a b r q (e ∙ sym d);
      one_response = λ input out a b r q e d. one_seen a b r q (e ∙ sym d);
    }
