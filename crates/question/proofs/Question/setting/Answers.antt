-- `Question::setting` meets its contract: N and n are small enough for the power T.
use Rattle.question.proofs.Pair.{states_few, letters_few}
use Rattle.question.proofs.Question.setting.Goals as goal

pub tuple_count-requires : goal.tuple_count-requires
tuple_count-requires c = let read = c.requires.read in (states_few read.model, letters_few read.sentence)
