use Rattle.link_input.proofs.Accepted.{null_entry, undefined_local, versionless_default, section_inside, signature_inside, members_inside, header_once, header_no_member, references_inside, retained_inside}
use Rattle.link_input.proofs.table_laws.accepted_tables.Goals as goal

pub returns-clause-null_entry : goal.returns-clause-null_entry
returns-clause-null_entry c = null_entry

pub returns-clause-undefined_local : goal.returns-clause-undefined_local
returns-clause-undefined_local c = undefined_local

pub returns-clause-versionless : goal.returns-clause-versionless
returns-clause-versionless c = versionless_default

pub returns-clause-sections : goal.returns-clause-sections
returns-clause-sections c = section_inside

pub returns-clause-signatures : goal.returns-clause-signatures
returns-clause-signatures c = signature_inside

pub returns-clause-members : goal.returns-clause-members
returns-clause-members c = members_inside

pub returns-clause-header_once : goal.returns-clause-header_once
returns-clause-header_once c = header_once

pub returns-clause-header_no_member : goal.returns-clause-header_no_member
returns-clause-header_no_member c = header_no_member

pub returns-clause-references : goal.returns-clause-references
returns-clause-references c = references_inside

pub returns-clause-retained : goal.returns-clause-retained
returns-clause-retained c = retained_inside
