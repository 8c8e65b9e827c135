-- The laws of the session, by the kernel's.
use Rattle.kernel_sim.proofs.AdvanceLaws.{steps_advance, host_writes_hold}
use Rattle.tether_base.proofs.Followed as followed
use Rattle.tether_base.proofs.Given as given
use Rattle.tether_base.proofs.OwnAnswers as own
use Rattle.tether_base.proofs.Returned as returned
use Rattle.tether_base.proofs.ServeWalk as walk
use Rattle.tether_base.proofs.Stayed as stayed
use Rattle.tether_base.specs.Behind.{AnswerStepsFollow}
use Rattle.tether_base.specs.Between.{CallStepsFollow, UserStepsFollow}
use Rattle.tether_base.specs.Own.{OwnAnswersFollow}
use Rattle.tether_base.specs.Serving.{ServesCalls, ServesWords, GivesAnswers}
use Rattle.tether_base.specs.Waiting.{StaysWaiting, TakesUserWrites}

pub user_steps_follow : UserStepsFollow
user_steps_follow = followed.user_steps_follow steps_advance

pub call_steps_follow : CallStepsFollow
call_steps_follow = followed.call_steps_follow steps_advance

pub answer_steps_follow : AnswerStepsFollow
answer_steps_follow = returned.answer_steps_follow steps_advance

pub own_answers_follow : OwnAnswersFollow
own_answers_follow = own.own_answers_follow steps_advance

pub stays_waiting : StaysWaiting
stays_waiting = stayed.stays_waiting steps_advance

pub takes_user_writes : TakesUserWrites
takes_user_writes = stayed.takes_user_writes host_writes_hold

pub serves_calls : ServesCalls
serves_calls = walk.serves_calls steps_advance host_writes_hold

pub serves_words : ServesWords
serves_words = walk.serves_words steps_advance host_writes_hold

pub gives_answers : GivesAnswers
gives_answers = given.gives_answers steps_advance host_writes_hold
