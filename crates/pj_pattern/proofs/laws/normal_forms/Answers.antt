use Rattle.pj_pattern.proofs.NormalKinds.{kind_kept}
use Rattle.pj_pattern.proofs.NormalMatches.{normal_again, same_matched}
use Rattle.pj_pattern.proofs.laws.normal_forms.Goals as goal

pub returns : goal.returns
returns c = record { same = same_matched; normal = normal_again; kind = kind_kept }
