use Rattle.std.proofs.Common.{[], ◌∷◌}
use Rattle.pj_feed.proofs.Opening.{opens_closes, opens_most_one}
use Rattle.pj_prepare.proofs.plan_file.read_file.Goals as goal

pub returns-in-Ok-whole-clause-opened : goal.returns-in-Ok-whole-clause-opened
returns-in-Ok-whole-clause-opened g c =
    let old = g.F.Folder.state c.args.folder.now in
    let mid = g.F.Folder.state c.open_file.new.self in
    let new = g.F.Folder.state c.close_file.new.self in
    opens_most_one (c.args.name.now ∷ []) old new (opens_closes c.args.name.now old mid new c.in-Ok.ensures.opened c.open_file.ensures.keeps c.open_file.ensures.other_opened c.close_file.ensures.opened)

pub returns-in-Ok-whole-clause-was_opened : goal.returns-in-Ok-whole-clause-was_opened
returns-in-Ok-whole-clause-was_opened g c =
    let old = g.F.Folder.state c.args.folder.now in
    let mid = g.F.Folder.state c.open_file.new.self in
    let new = g.F.Folder.state c.close_file.new.self in
    opens_closes c.args.name.now old mid new c.in-Ok.ensures.opened c.open_file.ensures.keeps c.open_file.ensures.other_opened c.close_file.ensures.opened

pub returns-in-Err-Fault-clause-opened : goal.returns-in-Err-Fault-clause-opened
returns-in-Err-Fault-clause-opened g c =
    let old = g.F.Folder.state c.args.folder.now in
    let mid = g.F.Folder.state c.open_file.new.self in
    let new = g.F.Folder.state c.close_file.new.self in
    opens_most_one (c.args.name.now ∷ []) old new (opens_closes c.args.name.now old mid new c.in-Ok.ensures.opened c.open_file.ensures.keeps c.open_file.ensures.other_opened c.close_file.ensures.opened)

pub returns-in-Err-TooLong-clause-opened : goal.returns-in-Err-TooLong-clause-opened
returns-in-Err-TooLong-clause-opened g c =
    let old = g.F.Folder.state c.args.folder.now in
    let mid = g.F.Folder.state c.open_file.new.self in
    let new = g.F.Folder.state c.close_file.new.self in
    opens_most_one (c.args.name.now ∷ []) old new (opens_closes c.args.name.now old mid new c.in-Ok.ensures.opened c.open_file.ensures.keeps c.open_file.ensures.other_opened c.close_file.ensures.opened)

pub returns-in-Err-NoMemory-whole-clause-opened : goal.returns-in-Err-NoMemory-whole-clause-opened
returns-in-Err-NoMemory-whole-clause-opened g c =
    let old = g.F.Folder.state c.args.folder.now in
    let mid = g.F.Folder.state c.open_file.new.self in
    let new = g.F.Folder.state c.close_file.new.self in
    opens_most_one (c.args.name.now ∷ []) old new (opens_closes c.args.name.now old mid new c.in-Ok.ensures.opened c.open_file.ensures.keeps c.open_file.ensures.other_opened c.close_file.ensures.opened)

pub returns-in-Err-Fault-clause-opens : goal.returns-in-Err-Fault-clause-opens
returns-in-Err-Fault-clause-opens g c =
    let old = g.F.Folder.state c.args.folder.now in
    let mid = g.F.Folder.state c.open_file.new.self in
    let new = g.F.Folder.state c.close_file.new.self in
    opens_closes c.args.name.now old mid new c.in-Ok.ensures.opened c.open_file.ensures.keeps c.open_file.ensures.other_opened c.close_file.ensures.opened

pub returns-in-Err-TooLong-clause-opens : goal.returns-in-Err-TooLong-clause-opens
returns-in-Err-TooLong-clause-opens g c =
    let old = g.F.Folder.state c.args.folder.now in
    let mid = g.F.Folder.state c.open_file.new.self in
    let new = g.F.Folder.state c.close_file.new.self in
    opens_closes c.args.name.now old mid new c.in-Ok.ensures.opened c.open_file.ensures.keeps c.open_file.ensures.other_opened c.close_file.ensures.opened
