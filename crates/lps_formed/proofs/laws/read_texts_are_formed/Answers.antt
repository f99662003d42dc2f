use Rattle.lps_formed.proofs.Texts.{declarations_are_few, texts_are_formed}
use Rattle.lps_formed.proofs.laws.read_texts_are_formed.Goals as goal

pub returns : goal.returns
returns c = record { formed = texts_are_formed; few = declarations_are_few }
