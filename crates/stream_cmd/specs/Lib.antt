pub mod Cmds
