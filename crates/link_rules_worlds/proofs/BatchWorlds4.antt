-- Generated worlds of several batches, and what an independent program answers to each.
-- Written by `tools/worlds.py` from `tools/batch_worlds.jsonl`.
use Rattle.std.proofs.Common.{refl}
use Rattle.std.specs.Str.{is_utf8, chars}
use Rattle.std.specs.Fmt.{digits}
use lib.Utf8.{encode}
use Rattle.link_flags.specs.FlagTable.{flag_table}
use Rattle.link_flags.specs.FlagText.{flags_text}
use Rattle.link_glob.specs.Reading.{tokens_of}
use Rattle.link_glob.specs.Glob.{does_match}
use Rattle.link_glob.specs.Compile.{glob_of}
use Rattle.link_script_syntax.specs.MachoList.{macho_matcher, line_matcher, macho_list}
use Rattle.link_script_syntax.specs.Named.{parent_at, named_at, versions_at}
use Rattle.link_script_syntax.specs.Body.{body_turn, pieces_at, body_at}
use Rattle.link_script_syntax.specs.ForcedName.{forced_token, forced_name}
use Rattle.link_script_syntax.specs.GnuList.{list_turn, gnu_entries, gnu_list}
use Rattle.link_script_syntax.specs.Many.{grow}
use Rattle.link_script_syntax.specs.Token.{trimmed, glob_at, matcher_of, token_at}
use Rattle.link_script_syntax.specs.Script.{anonymous, script_at}
use Rattle.link_script_syntax.specs.Block.{language_at, extern_text, inner_extern, block_turn, block_at}
use Rattle.link_script_syntax.specs.Skip.{skip}
use Rattle.link_script_syntax.specs.Entry.{extern_at, entry_at}
use Rattle.link_rules_worlds.specs.Computing.{IsAnswered}
use Rattle.link_rules_worlds.proofs.Computed.{answered}
use Rattle.link_rules_worlds.specs.BatchWorlds4 as its

pub batches_7037-is : IsAnswered its.batches_7037
unfolding
    is_utf8 chars digits encode flags_text flag_table macho_matcher line_matcher macho_list parent_at named_at
    versions_at body_turn pieces_at body_at forced_token forced_name list_turn gnu_entries gnu_list grow trimmed glob_at
    matcher_of token_at anonymous script_at language_at extern_text inner_extern block_turn block_at skip extern_at
    entry_at tokens_of does_match glob_of
batches_7037-is = answered its.batches_7037 refl refl

pub batches_7038-is : IsAnswered its.batches_7038
unfolding
    is_utf8 chars digits encode flags_text flag_table
batches_7038-is = answered its.batches_7038 refl refl

pub batches_7040-is : IsAnswered its.batches_7040
unfolding
    is_utf8 chars digits encode flags_text flag_table macho_matcher line_matcher macho_list parent_at named_at
    versions_at body_turn pieces_at body_at forced_token forced_name list_turn gnu_entries gnu_list grow trimmed glob_at
    matcher_of token_at anonymous script_at language_at extern_text inner_extern block_turn block_at skip extern_at
    entry_at tokens_of does_match glob_of
batches_7040-is = answered its.batches_7040 refl refl

pub batches_7041-is : IsAnswered its.batches_7041
unfolding
    is_utf8 chars digits encode flags_text flag_table
batches_7041-is = answered its.batches_7041 refl refl

pub batches_7042-is : IsAnswered its.batches_7042
unfolding
    is_utf8 chars digits encode flags_text flag_table macho_matcher line_matcher macho_list parent_at named_at
    versions_at body_turn pieces_at body_at forced_token forced_name list_turn gnu_entries gnu_list grow trimmed glob_at
    matcher_of token_at anonymous script_at language_at extern_text inner_extern block_turn block_at skip extern_at
    entry_at tokens_of does_match glob_of
batches_7042-is = answered its.batches_7042 refl refl

pub batches_7043-is : IsAnswered its.batches_7043
unfolding
    is_utf8 chars digits encode flags_text flag_table macho_matcher line_matcher macho_list parent_at named_at
    versions_at body_turn pieces_at body_at forced_token forced_name list_turn gnu_entries gnu_list grow trimmed glob_at
    matcher_of token_at anonymous script_at language_at extern_text inner_extern block_turn block_at skip extern_at
    entry_at tokens_of does_match glob_of
batches_7043-is = answered its.batches_7043 refl refl

pub batches_7044-is : IsAnswered its.batches_7044
unfolding
    is_utf8 chars digits encode flags_text flag_table
batches_7044-is = answered its.batches_7044 refl refl

pub batches_7045-is : IsAnswered its.batches_7045
unfolding
    is_utf8 chars digits encode flags_text flag_table macho_matcher line_matcher macho_list parent_at named_at
    versions_at body_turn pieces_at body_at forced_token forced_name list_turn gnu_entries gnu_list grow trimmed glob_at
    matcher_of token_at anonymous script_at language_at extern_text inner_extern block_turn block_at skip extern_at
    entry_at tokens_of does_match glob_of
batches_7045-is = answered its.batches_7045 refl refl

pub batches_7046-is : IsAnswered its.batches_7046
unfolding
    is_utf8 chars digits encode flags_text flag_table
batches_7046-is = answered its.batches_7046 refl refl

pub batches_7048-is : IsAnswered its.batches_7048
unfolding
    is_utf8 chars digits encode flags_text flag_table
batches_7048-is = answered its.batches_7048 refl refl
