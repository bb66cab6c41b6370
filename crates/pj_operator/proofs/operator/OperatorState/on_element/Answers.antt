use Rattle.std.proofs.Common.{subst, sym}
use Rattle.pj_operator.specs.declared.operator.OperatorState.{OperatorState}
use Rattle.pj_operator.specs.declared.operator.OperatorState.TheVariants.{Union as RunningUnion, Join as RunningJoin}
use Rattle.pj_operator.specs.Operators.{AreWide, FitsKind, IsOrderly, KeepsOpen, emitted_list, kind_of, width_of, width_up}
use Rattle.pj_operator.proofs.Nodes.{join_keeps}
use Rattle.pj_operator.proofs.Widths.{group_wide, join_wide, union_keeps, union_wide}
use Rattle.pj_operator.proofs.operator.OperatorState.on_element.Goals as goal

pub returns-in_ok-united-in-Union-clause-open : goal.returns-in_ok-united-in-Union-clause-open
returns-in_ok-united-in-Union-clause-open c =
    subst (λ (w : OperatorState). KeepsOpen w (RunningUnion c.united.new.union)) (sym c.in-Union.is)
    (union_keeps c.in-Union.union c.united.new.union c.args.input c.args.element c.in_ok-united-in-Union.ensures.keeps
    (subst (λ (w : OperatorState). FitsKind (kind_of w) c.args.input (width_of c.args.element)) c.in-Union.is c.requires).1)

pub returns-in_ok-united-in-Union-clause-wide : goal.returns-in_ok-united-in-Union-clause-wide
returns-in_ok-united-in-Union-clause-wide c =
    subst (λ (w : OperatorState). IsOrderly w → AreWide (width_up (kind_of w) (width_of c.args.element)) (emitted_list c.in_ok-united-in-Union.field-0)) (sym c.in-Union.is)
    (union_wide c.in-Union.union c.in_ok-united-in-Union.field-0 c.args.input c.args.element c.in_ok-united-in-Union.ensures.hands
    (subst (λ (w : OperatorState). FitsKind (kind_of w) c.args.input (width_of c.args.element)) c.in-Union.is c.requires).1)

pub returns-in_ok-joined-in-Join-clause-open : goal.returns-in_ok-joined-in-Join-clause-open
returns-in_ok-joined-in-Join-clause-open c =
    subst (λ (w : OperatorState). KeepsOpen w (RunningJoin c.joined.new.join)) (sym c.in-Join.is)
    (join_keeps c.in-Join.join c.joined.new.join c.args.input c.args.element c.in_ok-joined-in-Join.ensures.keeps (λ e. let q = c.in_ok-joined-in-Join.ensures.limit.1 e in cc)
    (subst (λ (w : OperatorState). FitsKind (kind_of w) c.args.input (width_of c.args.element)) c.in-Join.is c.requires))

pub returns-in_ok-joined-in-Join-clause-wide : goal.returns-in_ok-joined-in-Join-clause-wide
returns-in_ok-joined-in-Join-clause-wide c =
    subst (λ (w : OperatorState). IsOrderly w → AreWide (width_up (kind_of w) (width_of c.args.element)) (emitted_list c.in_ok-joined-in-Join.field-0)) (sym c.in-Join.is)
    (λ o. join_wide c.in-Join.join c.in_ok-joined-in-Join.field-0 c.args.input c.args.element c.in_ok-joined-in-Join.ensures.hands
    (subst (λ (w : OperatorState). FitsKind (kind_of w) c.args.input (width_of c.args.element)) c.in-Join.is c.requires))

pub returns-in_ok-grouped-in-Group-clause-wide : goal.returns-in_ok-grouped-in-Group-clause-wide
returns-in_ok-grouped-in-Group-clause-wide c =
    subst (λ (w : OperatorState). IsOrderly w → AreWide (width_up (kind_of w) (width_of c.args.element)) (emitted_list c.in_ok-grouped-in-Group.field-0)) (sym c.in-Group.is)
    (group_wide c.in-Group.group c.in_ok-grouped-in-Group.field-0 c.args.element c.in_ok-grouped-in-Group.ensures.hands)
