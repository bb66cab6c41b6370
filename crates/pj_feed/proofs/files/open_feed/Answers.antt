use Rattle.std.proofs.Common.{[], ◌∷◌}
use Rattle.pj_feed.proofs.Opening.{opens_one, opens_closes, opens_most_one}
use Rattle.pj_feed.proofs.files.open_feed.Goals as goal

pub returns-in-Ok-new-clause-opened : goal.returns-in-Ok-new-clause-opened
returns-in-Ok-new-clause-opened g c =
    let old = g.F.Folder.state c.args.folder.now in
    let new = g.F.Folder.state c.open_file.new.self in
    opens_most_one (c.args.name.now ∷ []) old new (opens_one c.args.name.now [] old new c.in-Ok.ensures.opened c.open_file.ensures.keeps c.open_file.ensures.other_opened)

pub returns-in-Ok-new-clause-was_opened : goal.returns-in-Ok-new-clause-was_opened
returns-in-Ok-new-clause-was_opened g c =
    opens_one c.args.name.now [] (g.F.Folder.state c.args.folder.now) (g.F.Folder.state c.open_file.new.self) c.in-Ok.ensures.opened c.open_file.ensures.keeps c.open_file.ensures.other_opened

pub returns-in-Err-clause-opened : goal.returns-in-Err-clause-opened
returns-in-Err-clause-opened g c =
    let old = g.F.Folder.state c.args.folder.now in
    let mid = g.F.Folder.state c.open_file.new.self in
    let new = g.F.Folder.state c.close_file.new.self in
    opens_most_one (c.args.name.now ∷ []) old new (opens_closes c.args.name.now old mid new c.in-Ok.ensures.opened c.open_file.ensures.keeps c.open_file.ensures.other_opened c.close_file.ensures.opened)
