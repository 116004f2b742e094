-- Generated worlds of several batches, and what an independent program answers to each.
-- Written by `tools/worlds.py` from `tools/batch_worlds.jsonl`.
use Rattle.std.proofs.Common.{refl}
use Rattle.std.specs.Str.{is_utf8, chars}
use Rattle.std.specs.Fmt.{digits}
use lib.Utf8.{encode}
use Rattle.link_flags.specs.FlagTable.{flag_table}
use Rattle.link_flags.specs.FlagText.{flags_text}
use Rattle.link_glob.specs.Reading.{tokens_of}
use Rattle.link_glob.specs.Glob.{does_match}
use Rattle.link_glob.specs.Compile.{glob_of}
use Rattle.link_script_syntax.specs.MachoList.{macho_matcher, line_matcher, macho_list}
use Rattle.link_script_syntax.specs.Named.{parent_at, named_at, versions_at}
use Rattle.link_script_syntax.specs.Body.{body_turn, pieces_at, body_at}
use Rattle.link_script_syntax.specs.ForcedName.{forced_token, forced_name}
use Rattle.link_script_syntax.specs.GnuList.{list_turn, gnu_entries, gnu_list}
use Rattle.link_script_syntax.specs.Many.{grow}
use Rattle.link_script_syntax.specs.Token.{trimmed, glob_at, matcher_of, token_at}
use Rattle.link_script_syntax.specs.Script.{anonymous, script_at}
use Rattle.link_script_syntax.specs.Block.{language_at, extern_text, inner_extern, block_turn, block_at}
use Rattle.link_script_syntax.specs.Skip.{skip}
use Rattle.link_script_syntax.specs.Entry.{extern_at, entry_at}
use Rattle.link_rules_worlds.specs.Computing.{IsAnswered}
use Rattle.link_rules_worlds.proofs.Computed.{answered}
use Rattle.link_rules_worlds.specs.BatchWorlds1 as its

pub batches_7000-is : IsAnswered its.batches_7000
unfolding
    is_utf8 chars digits encode flags_text flag_table
batches_7000-is = answered its.batches_7000 refl refl

pub batches_7001-is : IsAnswered its.batches_7001
unfolding
    is_utf8 chars digits encode flags_text flag_table macho_matcher line_matcher macho_list parent_at named_at
    versions_at body_turn pieces_at body_at forced_token forced_name list_turn gnu_entries gnu_list grow trimmed glob_at
    matcher_of token_at anonymous script_at language_at extern_text inner_extern block_turn block_at skip extern_at
    entry_at tokens_of does_match glob_of
batches_7001-is = answered its.batches_7001 refl refl

pub batches_7002-is : IsAnswered its.batches_7002
unfolding
    is_utf8 chars digits encode flags_text flag_table macho_matcher line_matcher macho_list parent_at named_at
    versions_at body_turn pieces_at body_at forced_token forced_name list_turn gnu_entries gnu_list grow trimmed glob_at
    matcher_of token_at anonymous script_at language_at extern_text inner_extern block_turn block_at skip extern_at
    entry_at tokens_of does_match glob_of
batches_7002-is = answered its.batches_7002 refl refl

pub batches_7003-is : IsAnswered its.batches_7003
unfolding
    is_utf8 chars digits encode flags_text flag_table
batches_7003-is = answered its.batches_7003 refl refl

pub batches_7004-is : IsAnswered its.batches_7004
unfolding
    is_utf8 chars digits encode flags_text flag_table macho_matcher line_matcher macho_list parent_at named_at
    versions_at body_turn pieces_at body_at forced_token forced_name list_turn gnu_entries gnu_list grow trimmed glob_at
    matcher_of token_at anonymous script_at language_at extern_text inner_extern block_turn block_at skip extern_at
    entry_at tokens_of does_match glob_of
batches_7004-is = answered its.batches_7004 refl refl

pub batches_7005-is : IsAnswered its.batches_7005
unfolding
    is_utf8 chars digits encode flags_text flag_table
batches_7005-is = answered its.batches_7005 refl refl
