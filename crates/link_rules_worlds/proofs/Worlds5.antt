-- Generated worlds, and what an independent program answers to each.
-- Written by `tools/worlds.py` from `tools/worlds.jsonl`.
use Rattle.std.proofs.Common.{refl}
use Rattle.std.specs.Str.{is_utf8, chars}
use Rattle.std.specs.Fmt.{digits}
use lib.Utf8.{encode}
use Rattle.link_flags.specs.FlagTable.{flag_table}
use Rattle.link_flags.specs.FlagText.{flags_text}
use Rattle.link_glob.specs.Reading.{tokens_of}
use Rattle.link_glob.specs.Glob.{does_match}
use Rattle.link_glob.specs.Compile.{glob_of}
use Rattle.link_script_syntax.specs.MachoList.{macho_matcher, line_matcher, macho_list}
use Rattle.link_script_syntax.specs.Named.{parent_at, named_at, versions_at}
use Rattle.link_script_syntax.specs.Body.{body_turn, pieces_at, body_at}
use Rattle.link_script_syntax.specs.ForcedName.{forced_token, forced_name}
use Rattle.link_script_syntax.specs.GnuList.{list_turn, gnu_entries, gnu_list}
use Rattle.link_script_syntax.specs.Many.{grow}
use Rattle.link_script_syntax.specs.Token.{trimmed, glob_at, matcher_of, token_at}
use Rattle.link_script_syntax.specs.Script.{anonymous, script_at}
use Rattle.link_script_syntax.specs.Block.{language_at, extern_text, inner_extern, block_turn, block_at}
use Rattle.link_script_syntax.specs.Skip.{skip}
use Rattle.link_script_syntax.specs.Entry.{extern_at, entry_at}
use Rattle.link_rules_worlds.specs.Computing.{IsAnswered}
use Rattle.link_rules_worlds.proofs.Computed.{answered}
use Rattle.link_rules_worlds.specs.Worlds5 as its

pub startstop_1028-is : IsAnswered its.startstop_1028
unfolding
    is_utf8 chars digits encode flags_text flag_table
startstop_1028-is = answered its.startstop_1028 refl refl

pub startstop_1032-is : IsAnswered its.startstop_1032
unfolding
    is_utf8 chars digits encode flags_text flag_table macho_matcher line_matcher macho_list parent_at named_at
    versions_at body_turn pieces_at body_at forced_token forced_name list_turn gnu_entries gnu_list grow trimmed glob_at
    matcher_of token_at anonymous script_at language_at extern_text inner_extern block_turn block_at skip extern_at
    entry_at tokens_of does_match glob_of
startstop_1032-is = answered its.startstop_1032 refl refl

pub startstop_1004-is : IsAnswered its.startstop_1004
unfolding
    is_utf8 chars digits encode flags_text flag_table macho_matcher line_matcher macho_list parent_at named_at
    versions_at body_turn pieces_at body_at forced_token forced_name list_turn gnu_entries gnu_list grow trimmed glob_at
    matcher_of token_at anonymous script_at language_at extern_text inner_extern block_turn block_at skip extern_at
    entry_at tokens_of does_match glob_of
startstop_1004-is = answered its.startstop_1004 refl refl

pub startstop_1005-is : IsAnswered its.startstop_1005
unfolding
    is_utf8 chars digits encode flags_text flag_table
startstop_1005-is = answered its.startstop_1005 refl refl

pub startstop_1018-is : IsAnswered its.startstop_1018
unfolding
    is_utf8 chars digits encode flags_text flag_table macho_matcher line_matcher macho_list parent_at named_at
    versions_at body_turn pieces_at body_at forced_token forced_name list_turn gnu_entries gnu_list grow trimmed glob_at
    matcher_of token_at anonymous script_at language_at extern_text inner_extern block_turn block_at skip extern_at
    entry_at tokens_of does_match glob_of
startstop_1018-is = answered its.startstop_1018 refl refl

pub hidden_1000-is : IsAnswered its.hidden_1000
unfolding
    is_utf8 chars digits encode flags_text flag_table
hidden_1000-is = answered its.hidden_1000 refl refl

pub hidden_1014-is : IsAnswered its.hidden_1014
unfolding
    is_utf8 chars digits encode flags_text flag_table
hidden_1014-is = answered its.hidden_1014 refl refl

pub hidden_1016-is : IsAnswered its.hidden_1016
unfolding
    is_utf8 chars digits encode flags_text flag_table macho_matcher line_matcher macho_list parent_at named_at
    versions_at body_turn pieces_at body_at forced_token forced_name list_turn gnu_entries gnu_list grow trimmed glob_at
    matcher_of token_at anonymous script_at language_at extern_text inner_extern block_turn block_at skip extern_at
    entry_at tokens_of does_match glob_of
hidden_1016-is = answered its.hidden_1016 refl refl

pub hidden_1023-is : IsAnswered its.hidden_1023
unfolding
    is_utf8 chars digits encode flags_text flag_table
hidden_1023-is = answered its.hidden_1023 refl refl

pub hidden_1027-is : IsAnswered its.hidden_1027
unfolding
    is_utf8 chars digits encode flags_text flag_table
hidden_1027-is = answered its.hidden_1027 refl refl

pub hidden_1030-is : IsAnswered its.hidden_1030
unfolding
    is_utf8 chars digits encode flags_text flag_table
hidden_1030-is = answered its.hidden_1030 refl refl

pub hidden_1032-is : IsAnswered its.hidden_1032
unfolding
    is_utf8 chars digits encode flags_text flag_table
hidden_1032-is = answered its.hidden_1032 refl refl

pub hidden_1004-is : IsAnswered its.hidden_1004
unfolding
    is_utf8 chars digits encode flags_text flag_table
hidden_1004-is = answered its.hidden_1004 refl refl

pub hidden_1006-is : IsAnswered its.hidden_1006
unfolding
    is_utf8 chars digits encode flags_text flag_table macho_matcher line_matcher macho_list parent_at named_at
    versions_at body_turn pieces_at body_at forced_token forced_name list_turn gnu_entries gnu_list grow trimmed glob_at
    matcher_of token_at anonymous script_at language_at extern_text inner_extern block_turn block_at skip extern_at
    entry_at tokens_of does_match glob_of
hidden_1006-is = answered its.hidden_1006 refl refl

pub hidden_1008-is : IsAnswered its.hidden_1008
unfolding
    is_utf8 chars digits encode flags_text flag_table macho_matcher line_matcher macho_list parent_at named_at
    versions_at body_turn pieces_at body_at forced_token forced_name list_turn gnu_entries gnu_list grow trimmed glob_at
    matcher_of token_at anonymous script_at language_at extern_text inner_extern block_turn block_at skip extern_at
    entry_at tokens_of does_match glob_of
hidden_1008-is = answered its.hidden_1008 refl refl

pub hidden_1012-is : IsAnswered its.hidden_1012
unfolding
    is_utf8 chars digits encode flags_text flag_table macho_matcher line_matcher macho_list parent_at named_at
    versions_at body_turn pieces_at body_at forced_token forced_name list_turn gnu_entries gnu_list grow trimmed glob_at
    matcher_of token_at anonymous script_at language_at extern_text inner_extern block_turn block_at skip extern_at
    entry_at tokens_of does_match glob_of
hidden_1012-is = answered its.hidden_1012 refl refl

pub hidden_1024-is : IsAnswered its.hidden_1024
unfolding
    is_utf8 chars digits encode flags_text flag_table macho_matcher line_matcher macho_list parent_at named_at
    versions_at body_turn pieces_at body_at forced_token forced_name list_turn gnu_entries gnu_list grow trimmed glob_at
    matcher_of token_at anonymous script_at language_at extern_text inner_extern block_turn block_at skip extern_at
    entry_at tokens_of does_match glob_of
hidden_1024-is = answered its.hidden_1024 refl refl

pub root_1003-is : IsAnswered its.root_1003
unfolding
    is_utf8 chars digits encode flags_text flag_table macho_matcher line_matcher macho_list parent_at named_at
    versions_at body_turn pieces_at body_at forced_token forced_name list_turn gnu_entries gnu_list grow trimmed glob_at
    matcher_of token_at anonymous script_at language_at extern_text inner_extern block_turn block_at skip extern_at
    entry_at tokens_of does_match glob_of
root_1003-is = answered its.root_1003 refl refl
