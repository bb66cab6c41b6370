use Rattle.std.proofs.Common.{map}
use Rattle.std.specs.String.{string_bytes}
use Rattle.pj_words.proofs.Asked.{requests_keep}
use Rattle.pj_words.proofs.request.request_of.Goals as goal

pub returns-in_ok-request_for-in-Some-clause-kept : goal.returns-in_ok-request_for-in-Some-clause-kept
returns-in_ok-request_for-in-Some-clause-kept c = requests_keep (map string_bytes c.args.words.now) _ c.in_ok-request_for-in-Some.ensures
