-- The definitions of AES by byte shuffles: the tower of fields, its tables, columns turned, and the stored schedule.
pub mod ScheduleNumbers
pub mod Tables
pub mod Tower
pub mod Turned
pub mod VectorSchedule
