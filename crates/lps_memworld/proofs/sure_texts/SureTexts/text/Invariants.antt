use Rattle.std.proofs.Common.{◌≡◌, drop}
use Rattle.lps_memworld.specs.Texts.{text_of, texts_of}
use Rattle.lps_memworld.proofs.sure_texts.SureTexts.text.Given as goal

abbrev pub invariant-loop-listed : goal.invariant-loop-listed
invariant-loop-listed l = text_of (texts_of (drop l.listed-index l.listed-items)) l.name ≡ text_of (texts_of l.listed-items) l.name
