-- Generated worlds, and what an independent program answers to each.
-- Written by `tools/worlds.py` from `tools/worlds.jsonl`.
use Rattle.std.proofs.Common.{refl}
use Rattle.std.specs.Str.{is_utf8, chars}
use Rattle.std.specs.Fmt.{digits}
use lib.Utf8.{encode}
use Rattle.link_flags.specs.FlagTable.{flag_table}
use Rattle.link_flags.specs.FlagText.{flags_text}
use Rattle.link_glob.specs.Reading.{tokens_of}
use Rattle.link_glob.specs.Glob.{does_match}
use Rattle.link_glob.specs.Compile.{glob_of}
use Rattle.link_script_syntax.specs.MachoList.{macho_matcher, line_matcher, macho_list}
use Rattle.link_script_syntax.specs.Named.{parent_at, named_at, versions_at}
use Rattle.link_script_syntax.specs.Body.{body_turn, pieces_at, body_at}
use Rattle.link_script_syntax.specs.ForcedName.{forced_token, forced_name}
use Rattle.link_script_syntax.specs.GnuList.{list_turn, gnu_entries, gnu_list}
use Rattle.link_script_syntax.specs.Many.{grow}
use Rattle.link_script_syntax.specs.Token.{trimmed, glob_at, matcher_of, token_at}
use Rattle.link_script_syntax.specs.Script.{anonymous, script_at}
use Rattle.link_script_syntax.specs.Block.{language_at, extern_text, inner_extern, block_turn, block_at}
use Rattle.link_script_syntax.specs.Skip.{skip}
use Rattle.link_script_syntax.specs.Entry.{extern_at, entry_at}
use Rattle.link_rules_worlds.specs.Computing.{IsAnswered}
use Rattle.link_rules_worlds.proofs.Computed.{answered}
use Rattle.link_rules_worlds.specs.Worlds6 as its

pub root_1004-is : IsAnswered its.root_1004
unfolding
    is_utf8 chars digits encode flags_text flag_table macho_matcher line_matcher macho_list parent_at named_at
    versions_at body_turn pieces_at body_at forced_token forced_name list_turn gnu_entries gnu_list grow trimmed glob_at
    matcher_of token_at anonymous script_at language_at extern_text inner_extern block_turn block_at skip extern_at
    entry_at tokens_of does_match glob_of
root_1004-is = answered its.root_1004 refl refl

pub root_1012-is : IsAnswered its.root_1012
unfolding
    is_utf8 chars digits encode flags_text flag_table
root_1012-is = answered its.root_1012 refl refl

pub root_1021-is : IsAnswered its.root_1021
unfolding
    is_utf8 chars digits encode flags_text flag_table
root_1021-is = answered its.root_1021 refl refl

pub root_1028-is : IsAnswered its.root_1028
unfolding
    is_utf8 chars digits encode flags_text flag_table macho_matcher line_matcher macho_list parent_at named_at
    versions_at body_turn pieces_at body_at forced_token forced_name list_turn gnu_entries gnu_list grow trimmed glob_at
    matcher_of token_at anonymous script_at language_at extern_text inner_extern block_turn block_at skip extern_at
    entry_at tokens_of does_match glob_of
root_1028-is = answered its.root_1028 refl refl

pub root_1031-is : IsAnswered its.root_1031
unfolding
    is_utf8 chars digits encode flags_text flag_table
root_1031-is = answered its.root_1031 refl refl

pub root_1041-is : IsAnswered its.root_1041
unfolding
    is_utf8 chars digits encode flags_text flag_table
root_1041-is = answered its.root_1041 refl refl

pub root_1007-is : IsAnswered its.root_1007
unfolding
    is_utf8 chars digits encode flags_text flag_table macho_matcher line_matcher macho_list parent_at named_at
    versions_at body_turn pieces_at body_at forced_token forced_name list_turn gnu_entries gnu_list grow trimmed glob_at
    matcher_of token_at anonymous script_at language_at extern_text inner_extern block_turn block_at skip extern_at
    entry_at tokens_of does_match glob_of
root_1007-is = answered its.root_1007 refl refl

pub root_1018-is : IsAnswered its.root_1018
unfolding
    is_utf8 chars digits encode flags_text flag_table
root_1018-is = answered its.root_1018 refl refl

pub root_1020-is : IsAnswered its.root_1020
unfolding
    is_utf8 chars digits encode flags_text flag_table
root_1020-is = answered its.root_1020 refl refl

pub root_1024-is : IsAnswered its.root_1024
unfolding
    is_utf8 chars digits encode flags_text flag_table macho_matcher line_matcher macho_list parent_at named_at
    versions_at body_turn pieces_at body_at forced_token forced_name list_turn gnu_entries gnu_list grow trimmed glob_at
    matcher_of token_at anonymous script_at language_at extern_text inner_extern block_turn block_at skip extern_at
    entry_at tokens_of does_match glob_of
root_1024-is = answered its.root_1024 refl refl

pub root_1026-is : IsAnswered its.root_1026
unfolding
    is_utf8 chars digits encode flags_text flag_table macho_matcher line_matcher macho_list parent_at named_at
    versions_at body_turn pieces_at body_at forced_token forced_name list_turn gnu_entries gnu_list grow trimmed glob_at
    matcher_of token_at anonymous script_at language_at extern_text inner_extern block_turn block_at skip extern_at
    entry_at tokens_of does_match glob_of
root_1026-is = answered its.root_1026 refl refl
