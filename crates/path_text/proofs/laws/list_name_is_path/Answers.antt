use Rattle.path_text.proofs.ListNames.{list_name-path, list_name-no_slash, list_name-one_part, list_name-no_control, length-list_name}
use Rattle.path_text.proofs.laws.list_name_is_path.Goals as goal

pub returns : goal.returns
returns c = record { path = list_name-path; slash = list_name-no_slash; part = list_name-one_part; control = list_name-no_control; short = length-list_name }
