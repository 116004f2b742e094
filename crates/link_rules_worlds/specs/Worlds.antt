-- Generated worlds, and what an independent program answers to each.
-- Written by `tools/worlds.py` from `tools/worlds.jsonl`.
use Rattle.std.specs.Prelude.{List, [], ◌∷◌}
use Rattle.link_rules_worlds.specs.Computing.{Case}
use Rattle.link_rules_worlds.specs.Worlds1.{valid_1008, valid_1010, valid_1011, valid_1017, valid_1020, valid_1021, valid_1030, valid_1034, valid_1042, valid_1027, valid_1036, valid_1044, valid_1047, comdat_1007, comdat_1014, comdat_1016, comdat_1019}
use Rattle.link_rules_worlds.specs.Worlds2.{comdat_1020, comdat_1031, comdat_1032, comdat_1002, comdat_1004, comdat_1025, comdat_1047, comdat_1050, comdat_1052, version_1002, version_1011, version_1014, version_1026, version_1027, version_1030, version_1033, version_1037}
use Rattle.link_rules_worlds.specs.Worlds3.{version_1000, version_1017, version_1022, version_1024, version_1038, script_1001, script_1005, script_1007, script_1038, script_1052, script_1060, script_1072, script_1096, script_1003, script_1006, script_1008, script_1010, script_1016, globs_1014}
use Rattle.link_rules_worlds.specs.Worlds4.{globs_1021, globs_1027, globs_1039, globs_1040, globs_1052, globs_1004, globs_1007, globs_1012, globs_1020, globs_1023, globs_1028, startstop_1002, startstop_1003, startstop_1008, startstop_1009, startstop_1011, startstop_1022, startstop_1027}
use Rattle.link_rules_worlds.specs.Worlds5.{startstop_1028, startstop_1032, startstop_1004, startstop_1005, startstop_1018, hidden_1000, hidden_1014, hidden_1016, hidden_1023, hidden_1027, hidden_1030, hidden_1032, hidden_1004, hidden_1006, hidden_1008, hidden_1012, hidden_1024, root_1003}
use Rattle.link_rules_worlds.specs.Worlds6.{root_1004, root_1012, root_1021, root_1028, root_1031, root_1041, root_1007, root_1018, root_1020, root_1024, root_1026}

unfoldable pub all_cases : List Case
all_cases =
    valid_1008 ∷ valid_1010 ∷ valid_1011 ∷ valid_1017 ∷ valid_1020 ∷ valid_1021 ∷ valid_1030 ∷ valid_1034 ∷ valid_1042 ∷
    valid_1027 ∷ valid_1036 ∷ valid_1044 ∷ valid_1047 ∷ comdat_1007 ∷ comdat_1014 ∷ comdat_1016 ∷ comdat_1019 ∷
    comdat_1020 ∷ comdat_1031 ∷ comdat_1032 ∷ comdat_1002 ∷ comdat_1004 ∷ comdat_1025 ∷ comdat_1047 ∷ comdat_1050 ∷
    comdat_1052 ∷ version_1002 ∷ version_1011 ∷ version_1014 ∷ version_1026 ∷ version_1027 ∷ version_1030 ∷ version_1033 ∷
    version_1037 ∷ version_1000 ∷ version_1017 ∷ version_1022 ∷ version_1024 ∷ version_1038 ∷ script_1001 ∷ script_1005 ∷
    script_1007 ∷ script_1038 ∷ script_1052 ∷ script_1060 ∷ script_1072 ∷ script_1096 ∷ script_1003 ∷ script_1006 ∷
    script_1008 ∷ script_1010 ∷ script_1016 ∷ globs_1014 ∷ globs_1021 ∷ globs_1027 ∷ globs_1039 ∷ globs_1040 ∷
    globs_1052 ∷ globs_1004 ∷ globs_1007 ∷ globs_1012 ∷ globs_1020 ∷ globs_1023 ∷ globs_1028 ∷ startstop_1002 ∷
    startstop_1003 ∷ startstop_1008 ∷ startstop_1009 ∷ startstop_1011 ∷ startstop_1022 ∷ startstop_1027 ∷ startstop_1028 ∷
    startstop_1032 ∷ startstop_1004 ∷ startstop_1005 ∷ startstop_1018 ∷ hidden_1000 ∷ hidden_1014 ∷ hidden_1016 ∷
    hidden_1023 ∷ hidden_1027 ∷ hidden_1030 ∷ hidden_1032 ∷ hidden_1004 ∷ hidden_1006 ∷ hidden_1008 ∷ hidden_1012 ∷
    hidden_1024 ∷ root_1003 ∷ root_1004 ∷ root_1012 ∷ root_1021 ∷ root_1028 ∷ root_1031 ∷ root_1041 ∷ root_1007 ∷
    root_1018 ∷ root_1020 ∷ root_1024 ∷ root_1026 ∷ []
