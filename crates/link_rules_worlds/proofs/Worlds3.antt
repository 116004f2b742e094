-- Generated worlds, and what an independent program answers to each.
-- Written by `tools/worlds.py` from `tools/worlds.jsonl`.
use Rattle.std.proofs.Common.{refl}
use Rattle.std.specs.Str.{is_utf8, chars}
use Rattle.std.specs.Fmt.{digits}
use lib.Utf8.{encode}
use Rattle.link_flags.specs.FlagTable.{flag_table}
use Rattle.link_flags.specs.FlagText.{flags_text}
use Rattle.link_glob.specs.Reading.{tokens_of}
use Rattle.link_glob.specs.Glob.{does_match}
use Rattle.link_glob.specs.Compile.{glob_of}
use Rattle.link_script_syntax.specs.MachoList.{macho_matcher, line_matcher, macho_list}
use Rattle.link_script_syntax.specs.Named.{parent_at, named_at, versions_at}
use Rattle.link_script_syntax.specs.Body.{body_turn, pieces_at, body_at}
use Rattle.link_script_syntax.specs.ForcedName.{forced_token, forced_name}
use Rattle.link_script_syntax.specs.GnuList.{list_turn, gnu_entries, gnu_list}
use Rattle.link_script_syntax.specs.Many.{grow}
use Rattle.link_script_syntax.specs.Token.{trimmed, glob_at, matcher_of, token_at}
use Rattle.link_script_syntax.specs.Script.{anonymous, script_at}
use Rattle.link_script_syntax.specs.Block.{language_at, extern_text, inner_extern, block_turn, block_at}
use Rattle.link_script_syntax.specs.Skip.{skip}
use Rattle.link_script_syntax.specs.Entry.{extern_at, entry_at}
use Rattle.link_rules_worlds.specs.Computing.{IsAnswered}
use Rattle.link_rules_worlds.proofs.Computed.{answered}
use Rattle.link_rules_worlds.specs.Worlds3 as its

pub version_1000-is : IsAnswered its.version_1000
unfolding
    is_utf8 chars digits encode flags_text flag_table macho_matcher line_matcher macho_list parent_at named_at
    versions_at body_turn pieces_at body_at forced_token forced_name list_turn gnu_entries gnu_list grow trimmed glob_at
    matcher_of token_at anonymous script_at language_at extern_text inner_extern block_turn block_at skip extern_at
    entry_at tokens_of does_match glob_of
version_1000-is = answered its.version_1000 refl refl

pub version_1017-is : IsAnswered its.version_1017
unfolding
    is_utf8 chars digits encode flags_text flag_table macho_matcher line_matcher macho_list parent_at named_at
    versions_at body_turn pieces_at body_at forced_token forced_name list_turn gnu_entries gnu_list grow trimmed glob_at
    matcher_of token_at anonymous script_at language_at extern_text inner_extern block_turn block_at skip extern_at
    entry_at tokens_of does_match glob_of
version_1017-is = answered its.version_1017 refl refl

pub version_1022-is : IsAnswered its.version_1022
unfolding
    is_utf8 chars digits encode flags_text flag_table macho_matcher line_matcher macho_list parent_at named_at
    versions_at body_turn pieces_at body_at forced_token forced_name list_turn gnu_entries gnu_list grow trimmed glob_at
    matcher_of token_at anonymous script_at language_at extern_text inner_extern block_turn block_at skip extern_at
    entry_at tokens_of does_match glob_of
version_1022-is = answered its.version_1022 refl refl

pub version_1024-is : IsAnswered its.version_1024
unfolding
    is_utf8 chars digits encode flags_text flag_table macho_matcher line_matcher macho_list parent_at named_at
    versions_at body_turn pieces_at body_at forced_token forced_name list_turn gnu_entries gnu_list grow trimmed glob_at
    matcher_of token_at anonymous script_at language_at extern_text inner_extern block_turn block_at skip extern_at
    entry_at tokens_of does_match glob_of
version_1024-is = answered its.version_1024 refl refl

pub version_1038-is : IsAnswered its.version_1038
unfolding
    is_utf8 chars digits encode flags_text flag_table macho_matcher line_matcher macho_list parent_at named_at
    versions_at body_turn pieces_at body_at forced_token forced_name list_turn gnu_entries gnu_list grow trimmed glob_at
    matcher_of token_at anonymous script_at language_at extern_text inner_extern block_turn block_at skip extern_at
    entry_at tokens_of does_match glob_of
version_1038-is = answered its.version_1038 refl refl

pub script_1001-is : IsAnswered its.script_1001
unfolding
    is_utf8 chars digits encode flags_text flag_table macho_matcher line_matcher macho_list parent_at named_at
    versions_at body_turn pieces_at body_at forced_token forced_name list_turn gnu_entries gnu_list grow trimmed glob_at
    matcher_of token_at anonymous script_at language_at extern_text inner_extern block_turn block_at skip extern_at
    entry_at tokens_of does_match glob_of
script_1001-is = answered its.script_1001 refl refl

pub script_1005-is : IsAnswered its.script_1005
unfolding
    is_utf8 chars digits encode flags_text flag_table macho_matcher line_matcher macho_list parent_at named_at
    versions_at body_turn pieces_at body_at forced_token forced_name list_turn gnu_entries gnu_list grow trimmed glob_at
    matcher_of token_at anonymous script_at language_at extern_text inner_extern block_turn block_at skip extern_at
    entry_at tokens_of does_match glob_of
script_1005-is = answered its.script_1005 refl refl

pub script_1007-is : IsAnswered its.script_1007
unfolding
    is_utf8 chars digits encode flags_text flag_table macho_matcher line_matcher macho_list parent_at named_at
    versions_at body_turn pieces_at body_at forced_token forced_name list_turn gnu_entries gnu_list grow trimmed glob_at
    matcher_of token_at anonymous script_at language_at extern_text inner_extern block_turn block_at skip extern_at
    entry_at tokens_of does_match glob_of
script_1007-is = answered its.script_1007 refl refl

pub script_1038-is : IsAnswered its.script_1038
unfolding
    is_utf8 chars digits encode flags_text flag_table macho_matcher line_matcher macho_list parent_at named_at
    versions_at body_turn pieces_at body_at forced_token forced_name list_turn gnu_entries gnu_list grow trimmed glob_at
    matcher_of token_at anonymous script_at language_at extern_text inner_extern block_turn block_at skip extern_at
    entry_at tokens_of does_match glob_of
script_1038-is = answered its.script_1038 refl refl

pub script_1052-is : IsAnswered its.script_1052
unfolding
    is_utf8 chars digits encode flags_text flag_table macho_matcher line_matcher macho_list parent_at named_at
    versions_at body_turn pieces_at body_at forced_token forced_name list_turn gnu_entries gnu_list grow trimmed glob_at
    matcher_of token_at anonymous script_at language_at extern_text inner_extern block_turn block_at skip extern_at
    entry_at tokens_of does_match glob_of
script_1052-is = answered its.script_1052 refl refl

pub script_1060-is : IsAnswered its.script_1060
unfolding
    is_utf8 chars digits encode flags_text flag_table macho_matcher line_matcher macho_list parent_at named_at
    versions_at body_turn pieces_at body_at forced_token forced_name list_turn gnu_entries gnu_list grow trimmed glob_at
    matcher_of token_at anonymous script_at language_at extern_text inner_extern block_turn block_at skip extern_at
    entry_at tokens_of does_match glob_of
script_1060-is = answered its.script_1060 refl refl

pub script_1072-is : IsAnswered its.script_1072
unfolding
    is_utf8 chars digits encode flags_text flag_table macho_matcher line_matcher macho_list parent_at named_at
    versions_at body_turn pieces_at body_at forced_token forced_name list_turn gnu_entries gnu_list grow trimmed glob_at
    matcher_of token_at anonymous script_at language_at extern_text inner_extern block_turn block_at skip extern_at
    entry_at tokens_of does_match glob_of
script_1072-is = answered its.script_1072 refl refl

pub script_1096-is : IsAnswered its.script_1096
unfolding
    is_utf8 chars digits encode flags_text flag_table macho_matcher line_matcher macho_list parent_at named_at
    versions_at body_turn pieces_at body_at forced_token forced_name list_turn gnu_entries gnu_list grow trimmed glob_at
    matcher_of token_at anonymous script_at language_at extern_text inner_extern block_turn block_at skip extern_at
    entry_at tokens_of does_match glob_of
script_1096-is = answered its.script_1096 refl refl

pub script_1003-is : IsAnswered its.script_1003
unfolding
    is_utf8 chars digits encode flags_text flag_table macho_matcher line_matcher macho_list parent_at named_at
    versions_at body_turn pieces_at body_at forced_token forced_name list_turn gnu_entries gnu_list grow trimmed glob_at
    matcher_of token_at anonymous script_at language_at extern_text inner_extern block_turn block_at skip extern_at
    entry_at tokens_of does_match glob_of
script_1003-is = answered its.script_1003 refl refl

pub script_1006-is : IsAnswered its.script_1006
unfolding
    is_utf8 chars digits encode flags_text flag_table macho_matcher line_matcher macho_list parent_at named_at
    versions_at body_turn pieces_at body_at forced_token forced_name list_turn gnu_entries gnu_list grow trimmed glob_at
    matcher_of token_at anonymous script_at language_at extern_text inner_extern block_turn block_at skip extern_at
    entry_at tokens_of does_match glob_of
script_1006-is = answered its.script_1006 refl refl

pub script_1008-is : IsAnswered its.script_1008
unfolding
    is_utf8 chars digits encode flags_text flag_table macho_matcher line_matcher macho_list parent_at named_at
    versions_at body_turn pieces_at body_at forced_token forced_name list_turn gnu_entries gnu_list grow trimmed glob_at
    matcher_of token_at anonymous script_at language_at extern_text inner_extern block_turn block_at skip extern_at
    entry_at tokens_of does_match glob_of
script_1008-is = answered its.script_1008 refl refl

pub script_1010-is : IsAnswered its.script_1010
unfolding
    is_utf8 chars digits encode flags_text flag_table macho_matcher line_matcher macho_list parent_at named_at
    versions_at body_turn pieces_at body_at forced_token forced_name list_turn gnu_entries gnu_list grow trimmed glob_at
    matcher_of token_at anonymous script_at language_at extern_text inner_extern block_turn block_at skip extern_at
    entry_at tokens_of does_match glob_of
script_1010-is = answered its.script_1010 refl refl

pub script_1016-is : IsAnswered its.script_1016
unfolding
    is_utf8 chars digits encode flags_text flag_table macho_matcher line_matcher macho_list parent_at named_at
    versions_at body_turn pieces_at body_at forced_token forced_name list_turn gnu_entries gnu_list grow trimmed glob_at
    matcher_of token_at anonymous script_at language_at extern_text inner_extern block_turn block_at skip extern_at
    entry_at tokens_of does_match glob_of
script_1016-is = answered its.script_1016 refl refl

pub globs_1014-is : IsAnswered its.globs_1014
unfolding
    is_utf8 chars digits encode flags_text flag_table macho_matcher line_matcher macho_list parent_at named_at
    versions_at body_turn pieces_at body_at forced_token forced_name list_turn gnu_entries gnu_list grow trimmed glob_at
    matcher_of token_at anonymous script_at language_at extern_text inner_extern block_turn block_at skip extern_at
    entry_at tokens_of does_match glob_of
globs_1014-is = answered its.globs_1014 refl refl
