use Rattle.std.proofs.Common.{[], ◌∙◌, subst}
use Rattle.command_words.specs.Words.{IsCommand}
use Rattle.station_run.specs.Station.{RoomFor, job, verify, print}
use Rattle.station_run.specs.Verify.{VerifyRun}
use Rattle.station_run.specs.Print.{PrintRun}
use Rattle.station_run.proofs.Ran.{drive_there, row_long}
use Rattle.station_run.proofs.run.run_asked.Goals as goal

pub run_offload-requires : goal.run_offload-requires
run_offload-requires g c =
    let is = subst (IsCommand c.args.words.now) c.in-Offload.is c.requires.command in
    let room = subst (λ x. RoomFor x (g.B.Bay.world c.args.bay.now).attached) c.in-Offload.is c.requires.room in
    record { none = record { sources = room.0; drives = room.1 }; job = is.is_job; count = is.count }

pub returns-in-Offload : goal.returns-in-Offload
returns-in-Offload g c =
    let is = subst (IsCommand c.args.words.now) c.in-Offload.is c.requires.command in
    job _ is.is_job c.run_offload.ensures.ran

pub word-requires : goal.word-requires
word-requires g c = row_long c.args.words.now _ _ (subst (IsCommand c.args.words.now) c.in-Verify.is c.requires.command)

pub verify_place-requires : goal.verify_place-requires
verify_place-requires g c = subst (λ x. RoomFor x (g.B.Bay.world c.args.bay.now).attached) c.in-Verify.is c.requires.room

pub print_place-requires : goal.print_place-requires
print_place-requires g c = subst (λ x. RoomFor x (g.B.Bay.world c.args.bay.now).attached) c.in-Print.is c.requires.room

pub returns-in-Verify : goal.returns-in-Verify
returns-in-Verify g c =
    let is = subst (IsCommand c.args.words.now) c.in-Verify.is c.requires.command in
    verify _ is (subst (λ p. VerifyRun c.in-Verify.list p c.verify_place.result (g.B.Bay.world c.args.bay.now) (g.B.Bay.world c.verify_place.new.bay)) (c.word.ensures [] ∙ drive_there c.args.words.now _ _ is) c.verify_place.ensures)

pub returns-in-Print : goal.returns-in-Print
returns-in-Print g c =
    let is = subst (IsCommand c.args.words.now) c.in-Print.is c.requires.command in
    print _ is (subst (λ p. PrintRun c.in-Print.list p c.print_place.result (g.B.Bay.world c.args.bay.now) (g.B.Bay.world c.print_place.new.bay)) (c.word-in-Print.ensures [] ∙ drive_there c.args.words.now _ _ is) c.print_place.ensures)
