use Rattle.std.proofs.Common.{◌∙◌, sym}
use Rattle.pj_report.proofs.status_line.write_status.Goals as goal

pub returns-in-ReadFault-clause-line : goal.returns-in-ReadFault-clause-line
returns-in-ReadFault-clause-line g c = λ t. rw (c.in-ReadFault.is, sym (c.as_bytes-in-ReadFault.ensures.value ∙ c.format-text-in-ReadFault.ensures.text)) (c.deliver-in-ReadFault.ensures.line t)

pub returns-in-NoMemory-clause-line : goal.returns-in-NoMemory-clause-line
returns-in-NoMemory-clause-line g c = λ t. rw c.in-NoMemory.is (c.deliver-in-NoMemory.ensures.line t)

pub returns-in-Plan-clause-line : goal.returns-in-Plan-clause-line
returns-in-Plan-clause-line g c = λ t. rw (c.in-Limit.is, c.in-Plan.is) (c.deliver-in-Plan.ensures.line t)

pub returns-in-Node-clause-line : goal.returns-in-Node-clause-line
returns-in-Node-clause-line g c = λ t. rw (c.in-Limit.is, c.in-Node.is) (c.deliver-in-Node.ensures.line t)

pub returns-in-File-clause-line : goal.returns-in-File-clause-line
returns-in-File-clause-line g c = λ t. rw (c.in-Limit.is, c.in-File.is) (c.deliver-in-File.ensures.line t)

pub returns-in-Script-clause-line : goal.returns-in-Script-clause-line
returns-in-Script-clause-line g c = λ t. rw (c.in-Limit.is, c.in-Script.is) (c.deliver-in-Script.ensures.line t)

pub returns-in-ScriptRefused-clause-line : goal.returns-in-ScriptRefused-clause-line
returns-in-ScriptRefused-clause-line g c = λ t. rw (c.in-ScriptRefused.is, sym (c.as_bytes.ensures.value ∙ c.format-text.ensures.text)) (c.deliver-in-ScriptRefused.ensures.line t)
