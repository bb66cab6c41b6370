use Rattle.pj_words.proofs.Asked.{requests_exact, requests_keep}
use Rattle.pj_words.proofs.laws.words_are_read_exactly.Goals as goal

pub returns : goal.returns
returns c = record { exact = requests_exact; kept = requests_keep }
