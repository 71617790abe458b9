-- A record that has its shape and room for the longest is written.
use native.Mathlib.Omega.{arith}
use Rattle.packing.specs.PackLaws.{bytes-length, done-put, never-refused}
use Rattle.packing.proofs.one_line.put_bytes.Goals as goal

pub overflow_add-result : goal.overflow_add-result
overflow_add-result c =
    let a = c.args in
    let put = done-put a.kind a.fields a.exceptions.now c.requires.0 a.room.now a.used c.requires.1 c.write_record.ensures _ c.in-Ok.is in
    omega (arith, put.place, bytes-length a.kind a.fields a.exceptions.now c.requires.0)

pub returns-in-Ok : goal.returns-in-Ok
returns-in-Ok c =
    let a = c.args in
    done-put a.kind a.fields a.exceptions.now c.requires.0 a.room.now a.used c.requires.1 c.write_record.ensures _ c.in-Ok.is

pub returns-in-Err : goal.returns-in-Err
returns-in-Err c =
    let a = c.args in
    absurd (never-refused a.kind a.fields a.exceptions.now c.requires.0 a.room.now a.used c.requires.1 c.write_record.ensures _ c.in-Err.is)
