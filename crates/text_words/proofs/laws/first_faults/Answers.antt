use Rattle.text_words.proofs.Turns.{first_fault, first_ends}
use Rattle.text_words.proofs.laws.first_faults.Goals as goal

pub returns : goal.returns
returns g c = record {
  one_is_first = λ read xs e fails. first_fault read xs e fails;
  first_ends_it = λ read xs i ys e first. first_ends read xs i ys e first;
}
