use Rattle.pj_pattern.proofs.MeetMatches.{meet_both}
use Rattle.pj_pattern.proofs.laws.meets_match_both.Goals as goal

pub returns : goal.returns
returns c = meet_both
