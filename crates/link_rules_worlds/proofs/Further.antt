-- Worked examples that no manifest gives.
use Rattle.std.proofs.Common.{refl}
use Rattle.std.specs.Str.{is_utf8, chars}
use Rattle.std.specs.Fmt.{digits}
use lib.Utf8.{encode}
use Rattle.link_flags.specs.FlagTable.{flag_table}
use Rattle.link_flags.specs.FlagText.{flags_text}
use Rattle.link_glob.specs.Reading.{tokens_of}
use Rattle.link_glob.specs.Glob.{does_match}
use Rattle.link_glob.specs.Compile.{glob_of}
use Rattle.link_script_syntax.specs.MachoList.{macho_matcher, line_matcher, macho_list}
use Rattle.link_script_syntax.specs.Named.{parent_at, named_at, versions_at}
use Rattle.link_script_syntax.specs.Body.{body_turn, pieces_at, body_at}
use Rattle.link_script_syntax.specs.ForcedName.{forced_token, forced_name}
use Rattle.link_script_syntax.specs.GnuList.{list_turn, gnu_entries, gnu_list}
use Rattle.link_script_syntax.specs.Many.{grow}
use Rattle.link_script_syntax.specs.Token.{trimmed, glob_at, matcher_of, token_at}
use Rattle.link_script_syntax.specs.Script.{anonymous, script_at}
use Rattle.link_script_syntax.specs.Block.{language_at, extern_text, inner_extern, block_turn, block_at}
use Rattle.link_script_syntax.specs.Skip.{skip}
use Rattle.link_script_syntax.specs.Entry.{extern_at, entry_at}
use Rattle.link_rules_worlds.specs.Computing.{IsAnswered, AreAnswered}
use Rattle.link_rules_worlds.proofs.Computed.{answered}
use Rattle.link_rules_worlds.specs.Further.{a_demangled_name_is_matched, a_located_redirect, a_forced_linker_symbol, as_many_as_may_be, too_many_linker_scripts, too_many_stub_libraries, too_many_of_two_kinds, all_cases}

pub a_demangled_name_is_matched-is : IsAnswered a_demangled_name_is_matched
unfolding is_utf8 chars digits encode flags_text flag_table macho_matcher line_matcher macho_list parent_at named_at versions_at body_turn pieces_at body_at forced_token forced_name list_turn gnu_entries gnu_list grow trimmed glob_at matcher_of token_at anonymous script_at language_at extern_text inner_extern block_turn block_at skip extern_at entry_at tokens_of does_match glob_of
a_demangled_name_is_matched-is = answered a_demangled_name_is_matched refl refl

pub a_located_redirect-is : IsAnswered a_located_redirect
unfolding is_utf8 chars digits encode flags_text flag_table
a_located_redirect-is = answered a_located_redirect refl refl

pub a_forced_linker_symbol-is : IsAnswered a_forced_linker_symbol
unfolding is_utf8 chars digits encode flags_text flag_table
a_forced_linker_symbol-is = answered a_forced_linker_symbol refl refl

pub as_many_as_may_be-is : IsAnswered as_many_as_may_be
unfolding is_utf8 chars digits encode flags_text flag_table
as_many_as_may_be-is = answered as_many_as_may_be refl refl

pub too_many_linker_scripts-is : IsAnswered too_many_linker_scripts
unfolding is_utf8 chars digits encode flags_text flag_table
too_many_linker_scripts-is = answered too_many_linker_scripts refl refl

pub too_many_stub_libraries-is : IsAnswered too_many_stub_libraries
unfolding is_utf8 chars digits encode flags_text flag_table
too_many_stub_libraries-is = answered too_many_stub_libraries refl refl

pub too_many_of_two_kinds-is : IsAnswered too_many_of_two_kinds
unfolding is_utf8 chars digits encode flags_text flag_table
too_many_of_two_kinds-is = answered too_many_of_two_kinds refl refl

pub all_cases-are : AreAnswered all_cases
unfolding all_cases
all_cases-are = (a_demangled_name_is_matched-is, (a_located_redirect-is, (a_forced_linker_symbol-is, (as_many_as_may_be-is, (too_many_linker_scripts-is, (too_many_stub_libraries-is, (too_many_of_two_kinds-is, tt)))))))
