-- Generated worlds, and what an independent program answers to each.
-- Written by `tools/worlds.py` from `tools/worlds.jsonl`.
use Rattle.link_rules_worlds.specs.Computing.{AreAnswered}
use Rattle.link_rules_worlds.proofs.Computed.{also}
use Rattle.link_rules_worlds.proofs.Worlds1.{valid_1008-is, valid_1010-is, valid_1011-is, valid_1017-is, valid_1020-is, valid_1021-is, valid_1030-is, valid_1034-is, valid_1042-is, valid_1027-is, valid_1036-is, valid_1044-is, valid_1047-is, comdat_1007-is, comdat_1014-is, comdat_1016-is, comdat_1019-is}
use Rattle.link_rules_worlds.proofs.Worlds2.{comdat_1020-is, comdat_1031-is, comdat_1032-is, comdat_1002-is, comdat_1004-is, comdat_1025-is, comdat_1047-is, comdat_1050-is, comdat_1052-is, version_1002-is, version_1011-is, version_1014-is, version_1026-is, version_1027-is, version_1030-is, version_1033-is, version_1037-is}
use Rattle.link_rules_worlds.proofs.Worlds3.{version_1000-is, version_1017-is, version_1022-is, version_1024-is, version_1038-is, script_1001-is, script_1005-is, script_1007-is, script_1038-is, script_1052-is, script_1060-is, script_1072-is, script_1096-is, script_1003-is, script_1006-is, script_1008-is, script_1010-is, script_1016-is, globs_1014-is}
use Rattle.link_rules_worlds.proofs.Worlds4.{globs_1021-is, globs_1027-is, globs_1039-is, globs_1040-is, globs_1052-is, globs_1004-is, globs_1007-is, globs_1012-is, globs_1020-is, globs_1023-is, globs_1028-is, startstop_1002-is, startstop_1003-is, startstop_1008-is, startstop_1009-is, startstop_1011-is, startstop_1022-is, startstop_1027-is}
use Rattle.link_rules_worlds.proofs.Worlds5.{startstop_1028-is, startstop_1032-is, startstop_1004-is, startstop_1005-is, startstop_1018-is, hidden_1000-is, hidden_1014-is, hidden_1016-is, hidden_1023-is, hidden_1027-is, hidden_1030-is, hidden_1032-is, hidden_1004-is, hidden_1006-is, hidden_1008-is, hidden_1012-is, hidden_1024-is, root_1003-is}
use Rattle.link_rules_worlds.proofs.Worlds6.{root_1004-is, root_1012-is, root_1021-is, root_1028-is, root_1031-is, root_1041-is, root_1007-is, root_1018-is, root_1020-is, root_1024-is, root_1026-is}
use Rattle.link_rules_worlds.specs.Worlds as its

pub all_cases-are : AreAnswered its.all_cases
unfolding its.all_cases
all_cases-are =
    let are : Unit {0} = tt in
    let are = also root_1026-is are in
    let are = also root_1024-is are in
    let are = also root_1020-is are in
    let are = also root_1018-is are in
    let are = also root_1007-is are in
    let are = also root_1041-is are in
    let are = also root_1031-is are in
    let are = also root_1028-is are in
    let are = also root_1021-is are in
    let are = also root_1012-is are in
    let are = also root_1004-is are in
    let are = also root_1003-is are in
    let are = also hidden_1024-is are in
    let are = also hidden_1012-is are in
    let are = also hidden_1008-is are in
    let are = also hidden_1006-is are in
    let are = also hidden_1004-is are in
    let are = also hidden_1032-is are in
    let are = also hidden_1030-is are in
    let are = also hidden_1027-is are in
    let are = also hidden_1023-is are in
    let are = also hidden_1016-is are in
    let are = also hidden_1014-is are in
    let are = also hidden_1000-is are in
    let are = also startstop_1018-is are in
    let are = also startstop_1005-is are in
    let are = also startstop_1004-is are in
    let are = also startstop_1032-is are in
    let are = also startstop_1028-is are in
    let are = also startstop_1027-is are in
    let are = also startstop_1022-is are in
    let are = also startstop_1011-is are in
    let are = also startstop_1009-is are in
    let are = also startstop_1008-is are in
    let are = also startstop_1003-is are in
    let are = also startstop_1002-is are in
    let are = also globs_1028-is are in
    let are = also globs_1023-is are in
    let are = also globs_1020-is are in
    let are = also globs_1012-is are in
    let are = also globs_1007-is are in
    let are = also globs_1004-is are in
    let are = also globs_1052-is are in
    let are = also globs_1040-is are in
    let are = also globs_1039-is are in
    let are = also globs_1027-is are in
    let are = also globs_1021-is are in
    let are = also globs_1014-is are in
    let are = also script_1016-is are in
    let are = also script_1010-is are in
    let are = also script_1008-is are in
    let are = also script_1006-is are in
    let are = also script_1003-is are in
    let are = also script_1096-is are in
    let are = also script_1072-is are in
    let are = also script_1060-is are in
    let are = also script_1052-is are in
    let are = also script_1038-is are in
    let are = also script_1007-is are in
    let are = also script_1005-is are in
    let are = also script_1001-is are in
    let are = also version_1038-is are in
    let are = also version_1024-is are in
    let are = also version_1022-is are in
    let are = also version_1017-is are in
    let are = also version_1000-is are in
    let are = also version_1037-is are in
    let are = also version_1033-is are in
    let are = also version_1030-is are in
    let are = also version_1027-is are in
    let are = also version_1026-is are in
    let are = also version_1014-is are in
    let are = also version_1011-is are in
    let are = also version_1002-is are in
    let are = also comdat_1052-is are in
    let are = also comdat_1050-is are in
    let are = also comdat_1047-is are in
    let are = also comdat_1025-is are in
    let are = also comdat_1004-is are in
    let are = also comdat_1002-is are in
    let are = also comdat_1032-is are in
    let are = also comdat_1031-is are in
    let are = also comdat_1020-is are in
    let are = also comdat_1019-is are in
    let are = also comdat_1016-is are in
    let are = also comdat_1014-is are in
    let are = also comdat_1007-is are in
    let are = also valid_1047-is are in
    let are = also valid_1044-is are in
    let are = also valid_1036-is are in
    let are = also valid_1027-is are in
    let are = also valid_1042-is are in
    let are = also valid_1034-is are in
    let are = also valid_1030-is are in
    let are = also valid_1021-is are in
    let are = also valid_1020-is are in
    let are = also valid_1017-is are in
    let are = also valid_1011-is are in
    let are = also valid_1010-is are in
    let are = also valid_1008-is are in
    are
